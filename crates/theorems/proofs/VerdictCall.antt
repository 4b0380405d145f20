-- The call looks at the settings, then at the frame, then at the room, and each outcome follows by cases.
use Rattle.std.specs.Prelude.{if◌then◌else◌}
use Prim.Native.Nat.{ℕ, ◌≤◌, ◌<◌}
use mathlib.Core.Path.{◌≡◌, refl, sym, ap, ◌∙◌, subst}
use mathlib.Core.Bool.{Bool, true, false, false≢true}
use mathlib.Core.List.{List}
use lib.ListN.{length, take}
use lib.Dec.{leb}
use borrow.Author.Tests.{le-leb, lt-leb}
use Rattle.definitions.specs.Words.Basics.{Result, ok, refused, any}
use Rattle.definitions.specs.Words.Expression.{Frame}
use Rattle.definitions.specs.Words.Leaves.{leaves}
use Rattle.definitions.specs.Bytes.Plans.{frame_of}
use Rattle.definitions.specs.Calls.Base.{written_over}
use Rattle.definitions.specs.Calls.ExtractAll.{finish_all, new_conjuncts, extract_all_by}
use Rattle.definitions.specs.Lists.Sessions.{accepted}
use Rattle.definitions.specs.Claims.Calls.{SameFrom, RefusedBy, all_refusals}
use Rattle.definitions.specs.Filter.Settings.{Settings, good_settings, match_under}
use Rattle.definitions.specs.Calls.Settings.{extract_all_under}
use Rattle.definitions.specs.Filter.Verdicts.{verdict_bytes, explained}
use Rattle.definitions.specs.Calls.Explain.{ExplainOutcome, new_verdicts, finish_explain, explain}
use Rattle.definitions.specs.Claims.Verdicts.{ExplainCalls}
use Rattle.theorems.proofs.Changes.{over-same, over_first}
use Rattle.theorems.proofs.RefusalNumbers.{all-refusals}
use Rattle.theorems.proofs.VerdictLines.{as-many}

module _ (S : Settings) (frame buffer : List ℕ) where
  -- What is done once the frame is read.
  abbrev done : Result Frame → ExplainOutcome
  done r = finish_explain buffer (new_verdicts S (length buffer) r)

  under : good_settings S ≡ true → explain S frame buffer ≡ done (frame_of frame)
  unfolding explain
  under good = ap (λ (b : Bool). if b then done (frame_of frame) else finish_explain buffer (refused 24)) good

  read-as : good_settings S ≡ true → (r : Result Frame) → frame_of frame ≡ r → explain S frame buffer ≡ done r
  read-as good r e = under good ∙ ap done e

  by-room : (F : Frame) (b : Bool) → accepted (finish_explain buffer (if b then ok (verdict_bytes S F) else refused 9)).answer ≡ b
  unfolding finish_explain accepted
  by-room F true = refl
  by-room F false = refl

  has-room : (F : Frame) (b : Bool) → leb (length (leaves F.expr)) (length buffer) ≡ b
      → done (ok F) ≡ finish_explain buffer (if b then ok (verdict_bytes S F) else refused 9)
  unfolding new_verdicts
  has-room F b e =
      ap (λ (n : ℕ). finish_explain buffer (if leb n (length buffer) then ok (verdict_bytes S F) else refused 9)) (as-many S F)
      ∙ ap (λ (b : Bool). finish_explain buffer (if b then ok (verdict_bytes S F) else refused 9)) e

  accepts : good_settings S ≡ true → (F : Frame) → frame_of frame ≡ ok F
      → accepted (explain S frame buffer).answer ≡ leb (length (leaves F.expr)) (length buffer)
  accepts good F e =
      ap (λ (o : ExplainOutcome). accepted o.answer)
      (read-as good (ok F) e ∙ has-room F (leb (length (leaves F.expr)) (length buffer)) refl)
      ∙ by-room F (leb (length (leaves F.expr)) (length buffer))

  -- What an accepted call left.
  abbrev Wrote : Frame → ExplainOutcome → Type 0
  Wrote F o =
      (o.answer ≡ ok (explained (verdict_bytes S F))) × (take (length (leaves F.expr)) o.buffer ≡ verdict_bytes S F)
      × SameFrom (length (leaves F.expr)) buffer o.buffer

  wrote : (F : Frame) → length (leaves F.expr) ≤ length buffer → Wrote F (finish_explain buffer (ok (verdict_bytes S F)))
  unfolding finish_explain
  wrote F fits = (
    refl,
    subst (λ (n : ℕ). take n (written_over (verdict_bytes S F) buffer) ≡ verdict_bytes S F) (as-many S F)
        (over_first (verdict_bytes S F) buffer),
    subst (λ (n : ℕ). SameFrom n buffer (written_over (verdict_bytes S F) buffer)) (as-many S F)
        (over-same (verdict_bytes S F) buffer (subst (λ (n : ℕ). n ≤ length buffer) (sym (as-many S F)) fits)),
  )

  writes : good_settings S ≡ true → (F : Frame) → frame_of frame ≡ ok F → length (leaves F.expr) ≤ length buffer
      → Wrote F (explain S frame buffer)
  writes good F e fits =
      subst (Wrote F) (sym (read-as good (ok F) e ∙ has-room F true (le-leb (length (leaves F.expr)) (length buffer) fits)))
      (wrote F fits)

  refuses : good_settings S ≡ true → (number : ℕ) → frame_of frame ≡ refused number
      → explain S frame buffer ≡ finish_explain buffer (refused number)
  unfolding new_verdicts
  refuses good number e = read-as good (refused number) e

  short : good_settings S ≡ true → (F : Frame) → frame_of frame ≡ ok F → length buffer < length (leaves F.expr)
      → explain S frame buffer ≡ finish_explain buffer (refused 9)
  short good F e s = read-as good (ok F) e ∙ has-room F false (lt-leb (length (leaves F.expr)) (length buffer) s)

  bad : good_settings S ≡ false → explain S frame buffer ≡ finish_explain buffer (refused 24)
  unfolding explain
  bad e = ap (λ (b : Bool). if b then done (frame_of frame) else finish_explain buffer (refused 24)) e

  -- Whatever is finished, a refusal keeps the buffer.
  finished-keeps : (x : Result (List ℕ)) → accepted (finish_explain buffer x).answer ≡ false → (finish_explain buffer x).buffer ≡ buffer
  unfolding finish_explain accepted
  finished-keeps (ok bytes) a = absurd (false≢true (sym a))
  finished-keeps (refused number) a = refl

  keeps-if : (b : Bool)
      → accepted (if b then done (frame_of frame) else finish_explain buffer (refused 24)).answer ≡ false
      → (if b then done (frame_of frame) else finish_explain buffer (refused 24)).buffer ≡ buffer
  keeps-if true a = finished-keeps (new_verdicts S (length buffer) (frame_of frame)) a
  keeps-if false a = finished-keeps (refused 24) a

  keeps : accepted (explain S frame buffer).answer ≡ false → (explain S frame buffer).buffer ≡ buffer
  unfolding explain
  keeps a = keeps-if (good_settings S) a

  -- The refusals are 24, the frame's own, which extract-all gives too, and 9.
  refused-ok : (F : Frame) (b : Bool)
      → RefusedBy all_refusals (finish_explain buffer (if b then ok (verdict_bytes S F) else refused 9)).answer
  unfolding finish_explain all_refusals any
  refused-ok F true = tt
  refused-ok F false = refl

  refused-read : (r : Result Frame)
      → RefusedBy all_refusals (finish_all buffer (new_conjuncts (match_under S) (length buffer) r)).answer
      → RefusedBy all_refusals (done r).answer
  unfolding new_verdicts new_conjuncts finish_all finish_explain
  refused-read (refused number) h = h
  refused-read (ok F) h = refused-ok F (leb (length (verdict_bytes S F)) (length buffer))

  refused-if : (b : Bool)
      → RefusedBy all_refusals (if b then extract_all_by (match_under S) frame buffer else finish_all buffer (refused 24)).answer
      → RefusedBy all_refusals (if b then done (frame_of frame) else finish_explain buffer (refused 24)).answer
  unfolding extract_all_by finish_explain finish_all
  refused-if true h = refused-read (frame_of frame) h
  refused-if false h = h

  refusals : RefusedBy all_refusals (explain S frame buffer).answer
  unfolding explain extract_all_under
  refusals = refused-if (good_settings S) (all-refusals S frame buffer)

pub explain-calls-hold : ExplainCalls
explain-calls-hold = record {
  good = λ S good. record {
    accepts = λ frame buffer. accepts S frame buffer good;
    writes = λ frame buffer. writes S frame buffer good;
    refuses = λ frame buffer. refuses S frame buffer good;
    short = λ frame buffer. short S frame buffer good;
  };
  bad = λ S e frame buffer. bad S frame buffer e;
  keeps = keeps;
  refusals = refusals;
}
