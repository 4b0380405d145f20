-- What is claimed of verdicts and of the call explain; crate `theorems` proves it. (Ours, beyond document 02.)
use Rattle.std.specs.Prelude.{ℕ, ◌/◌, ◌%◌, ◌≤◌, ◌<◌, ◌≡◌, true, false, List, ◌++◌, map, length, take, leb, if◌then◌else◌}
use Rattle.std.proofs.Math.Option
use Rattle.std.proofs.Math.Option.{Option, none, some}
use Rattle.definitions.specs.Words.Basics.{ok, refused, big_endian}
use Rattle.definitions.specs.Words.Expression.{Expr, Record, Frame, Extraction, held}
use Rattle.definitions.specs.Words.Leaves.{leaves, leaf_arity}
use Rattle.definitions.specs.Bytes.Encode.{predicate_kind, extraction_bytes}
use Rattle.definitions.specs.Bytes.Plans.{frame_of}
use Rattle.definitions.specs.Bytes.Good.{GoodPlan}
use Rattle.definitions.specs.Filter.Match.{match_leaf}
use Rattle.definitions.specs.Filter.Extract.{extraction_by}
use Rattle.definitions.specs.Filter.Exchange.{exchange_frame}
use Rattle.definitions.specs.Filter.Merge.{merge_frames}
use Rattle.definitions.specs.Filter.Settings.{Settings, good_settings, default_settings, match_under, GoodSettings}
use Rattle.definitions.specs.Filter.Verdicts.{Verdict, too_few_arguments, verdict_byte, knn_line, line_meant, applies, verdict_under, verdicts_under, verdict_bytes, TakenLeaf, named_by, explained, exchange_verdict}
use Rattle.definitions.specs.Calls.Explain.{finish_explain, explain}
use Rattle.definitions.specs.Lists.Sessions.{accepted}
use Rattle.definitions.specs.Claims.Calls.{SameFrom, RefusedBy, all_refusals}
use Rattle.definitions.specs.Claims.PriceLine.{price_line_by}

-- ---- a verdict

-- The line that a verdict says: its own byte if it is a match, none if it is a reason.
unfoldable pub line_said : Verdict → Option ℕ
line_said v = if leb (verdict_byte v) 0x13 then some (verdict_byte v) else none

-- A verdict says the line of the leaf's match, exactly where the leaf matches under the settings.
abbrev pub VerdictExactly : Type 0
VerdictExactly =
    (S : Settings) → GoodSettings S → (records : List Record) (leaf : Expr)
    → line_said (verdict_under S records leaf) ≡ Option.map predicate_kind (match_under S records leaf)

-- Under the settings of the program, that is where the leaf matches by 01.
abbrev pub VerdictByDefault : Type 0
VerdictByDefault =
    (records : List Record) (leaf : Expr)
    → line_said (verdict_under default_settings records leaf) ≡ Option.map predicate_kind (match_leaf records leaf)

-- A verdict that is a reason applies, and no reason with a smaller byte does; where it is a match, no reason applies.
pub record FirstReason (S : Settings) (records : List Record) (leaf : Expr) : Type 0 where
  pub reason : line_said (verdict_under S records leaf) ≡ none → applies S records leaf (verdict_under S records leaf) ≡ true
  pub first : (r : Verdict) → verdict_byte r < verdict_byte (verdict_under S records leaf) → applies S records leaf r ≡ false
  pub no_reason : (line : ℕ) → line_said (verdict_under S records leaf) ≡ some line → (r : Verdict) → applies S records leaf r ≡ false

-- Of every leaf, whatever the settings.
abbrev pub ReasonsTrueAndFirst : Type 0
ReasonsTrueAndFirst = (S : Settings) (records : List Record) (leaf : Expr) → FirstReason S records leaf

-- Of leaves that load takes (refusal 8) only those that are meant for KNN have too few arguments.
abbrev pub OnlyKnnTooFew : Type 0
OnlyKnnTooFew =
    (S : Settings) (records : List Record) (leaf : Expr) → leaf_arity leaf ≡ true
    → applies S records leaf too_few_arguments ≡ true → line_meant leaf ≡ knn_line

-- Two verdicts with the same byte are the same, and every one is a byte.
abbrev pub VerdictBytesApart : Type 0
VerdictBytesApart = ((v w : Verdict) → verdict_byte v ≡ verdict_byte w → v ≡ w) × ((v : Verdict) → verdict_byte v < 256)

-- ---- the verdicts of a frame

-- The taken leaf's position and line.
abbrev pub taken_leaf : Extraction → TakenLeaf
taken_leaf X = record { position = X.position; line = predicate_kind X.predicate }

-- Read off the bytes alone, the position and the line are those of extract; where there is no match, neither reads one.
abbrev pub VerdictsNameTheLine : Type 0
VerdictsNameTheLine =
    (S : Settings) → GoodSettings S → (F : Frame)
    → (named_by (verdict_bytes S F) ≡ Option.map taken_leaf (extraction_by (match_under S) F))
    × (Option.map (λ (t : TakenLeaf). t.line) (named_by (verdict_bytes S F)) ≡ price_line_by (match_under S) F)

-- The answer is of five bytes: the last two are the number of AND-leaves, those before are 0 where there is no match, else the first
-- three bytes of the plan that extract would leave.
abbrev pub AnswerIsTheBill : Type 0
AnswerIsTheBill =
    (S : Settings) → GoodSettings S → (F : Frame) → GoodPlan (held F)
    → (explained (verdict_bytes S F) % 65536 ≡ length (leaves F.expr))
    × (explained (verdict_bytes S F) < 1099511627776)
    × (extraction_by (match_under S) F ≡ none → explained (verdict_bytes S F) / 65536 ≡ 0)
    × ((X : Extraction) → extraction_by (match_under S) F ≡ some X
    → big_endian 3 (explained (verdict_bytes S F) / 65536) ≡ take 3 (extraction_bytes X))

-- The exchanged frame has the same verdicts, left and right exchanged where a verdict names a child: both machines say the same.
abbrev pub VerdictsExchanged : Type 0
VerdictsExchanged = (S : Settings) (F : Frame) → verdicts_under S (exchange_frame F) ≡ map exchange_verdict (verdicts_under S F)

-- A merged frame has the held one's verdicts, and then the policy's.
abbrev pub VerdictsMerged : Type 0
VerdictsMerged =
    (S : Settings) (old new : Frame) → GoodPlan (held old) → GoodPlan (held new)
    → verdicts_under S (merge_frames old new) ≡ verdicts_under S old ++ verdicts_under S new

-- ---- the call

-- Under settings that do not get 24:
pub record ExplainCall (S : Settings) : Type 0 where
  -- it is accepted exactly when the frame is good and the buffer has a byte for each of its AND-leaves,
  pub accepts : (frame buffer : List ℕ) (F : Frame) → frame_of frame ≡ ok F
      → accepted (explain S frame buffer).answer ≡ leb (length (leaves F.expr)) (length buffer)
  -- and then writes their verdicts at the buffer's start and keeps the bytes after them;
  pub writes : (frame buffer : List ℕ) (F : Frame) → frame_of frame ≡ ok F → length (leaves F.expr) ≤ length buffer
      → ((explain S frame buffer).answer ≡ ok (explained (verdict_bytes S F)))
      × (take (length (leaves F.expr)) (explain S frame buffer).buffer ≡ verdict_bytes S F)
      × SameFrom (length (leaves F.expr)) buffer (explain S frame buffer).buffer
  -- a frame that is no good gets its own refusal, 1 to 8, and a good one 9 where the buffer is too short.
  pub refuses : (frame buffer : List ℕ) (number : ℕ) → frame_of frame ≡ refused number
      → explain S frame buffer ≡ finish_explain buffer (refused number)
  pub short : (frame buffer : List ℕ) (F : Frame) → frame_of frame ≡ ok F → length buffer < length (leaves F.expr)
      → explain S frame buffer ≡ finish_explain buffer (refused 9)

-- All of it; a refusal writes nothing; settings that are not good get 24 before anything else; and there is no other refusal.
pub record ExplainCalls : Type 0 where
  pub good : (S : Settings) → good_settings S ≡ true → ExplainCall S
  pub bad : (S : Settings) → good_settings S ≡ false → (frame buffer : List ℕ) → explain S frame buffer ≡ finish_explain buffer (refused 24)
  pub keeps : (S : Settings) (frame buffer : List ℕ) → accepted (explain S frame buffer).answer ≡ false
      → (explain S frame buffer).buffer ≡ buffer
  pub refusals : (S : Settings) (frame buffer : List ℕ) → RefusedBy all_refusals (explain S frame buffer).answer
