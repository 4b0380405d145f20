-- What is claimed of extractions and of calls, claimed with any lawful matcher. (Ours.)
use Rattle.std.specs.Prelude.{ℕ, ◌≤◌, ◌≡◌, true, false, ◌&&◌, not, List, [], ◌∷◌, ◌++◌, length, take, leb}
use Rattle.std.proofs.Math.Option.{none, some, map}
use Rattle.definitions.specs.Words.Basics.{Result, ok, refused}
use Rattle.definitions.specs.Words.Limits.{most_bytes}
use Rattle.definitions.specs.Words.Expression.{Frame, Extraction, held, extracted}
use Rattle.definitions.specs.Bytes.Encode.{frame_bytes, extraction_bytes, plan_bytes}
use Rattle.definitions.specs.Bytes.Good.{AllBytes, GoodPlan}
use Rattle.definitions.specs.Bytes.NodeTable.{NodeRecord}
use Rattle.definitions.specs.Filter.Match.{match_leaf}
use Rattle.definitions.specs.Filter.Extract.{Matcher, matches_by, extraction_by}
use Rattle.definitions.specs.Filter.Exchange.{exchange_frame, exchange_extraction, extracted_plan}
use Rattle.definitions.specs.Calls.Base.{extract_by}
use Rattle.definitions.specs.Lists.Machine.{Kind}
use Rattle.definitions.specs.Lists.Sessions.{Made, extract_with, exchange_with, make_by, machine_after_by, accepted, SessionBy, after, length_after, plan_after, extracted_in, odd_in, answer_after}
use Rattle.definitions.specs.Meaning.Values.{Valuation, Meaning, Fair, frame_value, extraction_value}
use Rattle.definitions.specs.Meaning.Matchers.{Lawful, Symmetric}
use Rattle.definitions.specs.Claims.Calls.{CallWrote, PlanWritten, extract_refusals, RefusedBy}
use Rattle.definitions.specs.Claims.Lists.{LoadHoldsBy, AgreeBy, some_leaf_matches_by}
use Rattle.definitions.specs.Claims.Pick.{match_at, TookAmong, NamesLeaf}
use Rattle.definitions.specs.Claims.PriceLine.{price_line_by, OnLine}
use Rattle.definitions.specs.Claims.Values.{values_when, HasValue}

-- The extractions with a matcher; `Asks` is what their values ask of a meaning.
pub record Extracts (match : Matcher) (Asks : Meaning → Type 0) : Type 0 where
  -- Each takes the first KNN match, failing that the first match,
  pub takes : (F : Frame) (X : Extraction) → extraction_by match F ≡ some X → TookAmong (matches_by match F) F X
  -- and where there is none no leaf matches.
  pub untaken : (F : Frame) → extraction_by match F ≡ none → (position : ℕ) → match_at (matches_by match F) position ≡ none
  -- That of the exchanged frame is the exchanged one.
  pub exchanged : (F : Frame) → extraction_by match (exchange_frame F) ≡ map exchange_extraction (extraction_by match F)
  -- That of a good frame is good, and never longer than the frame.
  pub good : (F : Frame) (X : Extraction) → GoodPlan (held F) → extraction_by match F ≡ some X
      → GoodPlan (extracted X) × (length (extraction_bytes X) ≤ length (frame_bytes F))
  -- It has the frame's value.
  pub value : (M : Meaning) (v : Valuation) (F : Frame) (X : Extraction) → Asks M → GoodPlan (held F)
      → extraction_by match F ≡ some X → extraction_value M v X ≡ frame_value M v F

-- A call with a matcher.
pub record OneCall (match : Matcher) : Type 0 where
  -- The length that it gives is at most 16,384.
  pub short : (kind : Kind) (n : ℕ) (buffer scratch : List ℕ) (table : List NodeRecord) (m : ℕ) → AllBytes buffer
      → (make_by match kind n buffer scratch table).answer ≡ ok m → m ≤ most_bytes
  -- Refused, it keeps n and both buffers.
  pub keeps : (kind : Kind) (n : ℕ) (buffer scratch : List ℕ) (table : List NodeRecord)
      → accepted (make_by match kind n buffer scratch table).answer ≡ false
      → ((make_by match kind n buffer scratch table).n ≡ n) × ((make_by match kind n buffer scratch table).buffer ≡ buffer)
      × ((make_by match kind n buffer scratch table).scratch ≡ scratch)
  -- Accepted, it writes what 01 says and keeps every other byte of both buffers.
  pub writes : (kind : Kind) (n : ℕ) (buffer scratch : List ℕ) (table : List NodeRecord) → AllBytes buffer
      → accepted (make_by match kind n buffer scratch table).answer ≡ true
      → CallWrote n buffer scratch (make_by match kind n buffer scratch table)
      × PlanWritten match kind n buffer (make_by match kind n buffer scratch table)
  -- An extract's answer is a length or one of its own refusals.
  pub refusals : (n : ℕ) (buffer scratch : List ℕ) (table : List NodeRecord)
      → RefusedBy extract_refusals (extract_by match n buffer scratch table).answer

-- Lists of calls with a matcher, from a held frame.
pub record Lists (match : Matcher) (Asks : Meaning → Type 0) : Type 0 where
  -- An accepted load leaves a session of its frame.
  pub loads : LoadHoldsBy match
  -- Every list gives what the two-bit machine gives.
  pub machine : (F : Frame) (s : SessionBy match F) (calls : List Made) → AgreeBy match F (after s calls) (machine_after_by match F calls)
  -- Its answers are those of its calls, each made after the calls before it.
  pub in_place : (F : Frame) (s : SessionBy match F) (before : List Made) (c : Made) (later : List Made)
      → (others : List (Result ℕ))
      × ((after s (before ++ (c ∷ later))).answers ≡ (after s before).answers ++ (answer_after s before c ∷ others))
  -- Two lists that are alike in both leave the same plan.
  pub same_plan : (F : Frame) (s t : SessionBy match F) (calls calls' : List Made)
      → extracted_in s calls ≡ extracted_in t calls' → odd_in s calls ≡ odd_in t calls' → plan_after s calls ≡ plan_after t calls'
  -- An exchange is accepted exactly when its scratch is at least as long as the plan,
  pub exchange_accepted : (F : Frame) (s : SessionBy match F) (before : List Made) (scratch : List ℕ)
      → accepted (answer_after s before (exchange_with scratch)) ≡ leb (length_after s before) (length scratch)
  -- an extract exactly when its scratch is too, none was accepted before it and an AND-leaf matches.
  pub extract_accepted : (F : Frame) (s : SessionBy match F) (before : List Made) (scratch : List ℕ)
      → accepted (answer_after s before (extract_with scratch))
      ≡ (leb (length_after s before) (length scratch) && (not (extracted_in s before) && some_leaf_matches_by match F))
  -- After an accepted extract the plan is the extraction of the first KNN match, failing that of the first match.
  pub takes : (F : Frame) (s : SessionBy match F) (calls : List Made) → extracted_in s calls ≡ true
      → (X : Extraction) × TookAmong (matches_by match F) F X × (plan_after s calls ≡ plan_bytes (extracted_plan X (odd_in s calls)))
  -- Its bytes 1 and 2 are that leaf's position.
  pub position : (F : Frame) (s : SessionBy match F) (calls : List Made) → extracted_in s calls ≡ true
      → NamesLeaf (matches_by match F) F (plan_after s calls)
  -- At any place of any list the first extract that has room is on the frame's line,
  pub line : (F : Frame) (s : SessionBy match F) (before : List Made) (scratch : List ℕ)
      → extracted_in s before ≡ false → length_after s before ≤ length scratch
      → OnLine (price_line_by match F) (answer_after s before (extract_with scratch)) (plan_after s (before ++ (extract_with scratch ∷ [])))
  -- the plan stays on it,
  pub line_stays : (F : Frame) (s : SessionBy match F) (calls : List Made) → extracted_in s calls ≡ true
      → (line : ℕ) × (price_line_by match F ≡ some line) × (take 1 (plan_after s calls) ≡ line ∷ [])
  -- and an exchanged frame is on the same.
  pub line_exchanged : (F : Frame) → price_line_by match (exchange_frame F) ≡ price_line_by match F
  -- Two machines that both extracted hold the extraction of one leaf, exchanged or not, with the same first byte and position.
  pub same_leaf : (F : Frame) (s t : SessionBy match F) (calls calls' : List Made) → extracted_in s calls ≡ true
      → extracted_in t calls' ≡ true → (X : Extraction) × TookAmong (matches_by match F) F X
      × (plan_after s calls ≡ plan_bytes (extracted_plan X (odd_in s calls)))
      × (plan_after t calls' ≡ plan_bytes (extracted_plan X (odd_in t calls')))
      × (take 3 (plan_after s calls) ≡ take 3 (plan_after t calls'))
  -- Where one refuses with 13, so does the other, wherever its scratch is long enough,
  pub same_refusal : (F : Frame) (s t : SessionBy match F) (before before' : List Made) (scratch scratch' : List ℕ)
      → answer_after s before (extract_with scratch) ≡ refused 13 → length_after t before' ≤ length scratch'
      → answer_after t before' (extract_with scratch') ≡ refused 13
  -- and the other never extracts.
  pub never_mixed : (F : Frame) (s t : SessionBy match F) (before : List Made) (scratch : List ℕ) (calls : List Made)
      → answer_after s before (extract_with scratch) ≡ refused 13 → extracted_in t calls ≡ false
  -- The plan has the frame's value, the values of left and right exchanged when odd.
  pub value : (M : Meaning) → Symmetric M → (v : Valuation) (F : Frame) (s : SessionBy match F) → Asks M → (calls : List Made)
      → HasValue M v (plan_after s calls) (frame_value M (values_when (odd_in s calls) v) F)

-- All of it holds of every lawful matcher, and 01's is one.
abbrev pub AnyMatcher : Type 1
AnyMatcher =
    ((match : Matcher) (Asks : Meaning → Type 0) → Lawful match Asks
    → Extracts match Asks × OneCall match × Lists match Asks)
    × Lawful match_leaf Fair
