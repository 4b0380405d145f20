-- Demand 3 whole, at the definitions: from an accepted load and under settings (request 13), in the order of the customer's sentences.
use Rattle.std.specs.Prelude.{ℕ, ◌≡◌, Bool, true, ◌&&◌, not, List, length, leb}
use Rattle.definitions.specs.Words.Basics.{Result, ok}
use Rattle.definitions.specs.Words.Expression.{Frame, Extraction}
use Rattle.definitions.specs.Bytes.Encode.{plan_bytes}
use Rattle.definitions.specs.Bytes.Plans.{frame_of}
use Rattle.definitions.specs.Bytes.Good.{AllBytes}
use Rattle.definitions.specs.Bytes.NodeTable.{NodeRecord}
use Rattle.definitions.specs.Filter.Extract.{matches_by}
use Rattle.definitions.specs.Filter.Exchange.{extracted_plan}
use Rattle.definitions.specs.Filter.Settings.{Settings, match_under, GoodSettings}
use Rattle.definitions.specs.Calls.Base.{LoadOutcome, load}
use Rattle.definitions.specs.Lists.Sessions.{Made, extract_with, exchange_with, ListOutcome, machine_after_by, accepted, extract_accepted, exchanges_odd, plan_left}
use Rattle.definitions.specs.Lists.Settings.{make_under, calls_run_under}
use Rattle.definitions.specs.Meaning.Values.{Valuation, Meaning, frame_value, FairUnder}
use Rattle.definitions.specs.Claims.Lists.{AgreeBy, some_leaf_matches_by}
use Rattle.definitions.specs.Claims.Pick.{TookAmong}
use Rattle.definitions.specs.Claims.Values.{values_when, HasValue}

-- A load of bytes that was accepted, whatever n, plan buffer and table it was given.
pub record LoadTaken : Type 0 where
  pub frame : List ℕ
  pub n : ℕ
  pub buffer : List ℕ
  pub table : List NodeRecord
  pub bytes : AllBytes frame
  pub taken : accepted (load frame n buffer table).answer ≡ true

-- What it left.
abbrev pub loaded : LoadTaken → LoadOutcome
loaded l = load l.frame l.n l.buffer l.table

-- What a list of calls after it, all with these settings, answers and leaves, each call on the plan that the one before left.
abbrev pub list_after : Settings → LoadTaken → List Made → ListOutcome
list_after S l calls = calls_run_under S (loaded l).n (loaded l).buffer (loaded l).table calls

-- The plan after the list.
abbrev pub plan_then : Settings → LoadTaken → List Made → List ℕ
plan_then S l calls = plan_left (list_after S l calls)

-- Whether an extract was accepted in it.
abbrev pub extracted_then : Settings → LoadTaken → List Made → Bool
extracted_then S l calls = extract_accepted calls (list_after S l calls).answers

-- Whether accepted exchanges are odd in number in it.
abbrev pub odd_then : Settings → LoadTaken → List Made → Bool
odd_then S l calls = exchanges_odd calls (list_after S l calls).answers

-- The answer of one more call.
abbrev pub answer_then : Settings → LoadTaken → List Made → Made → Result ℕ
answer_then S l calls c =
    (make_under S c.kind (list_after S l calls).n (list_after S l calls).buffer c.scratch (loaded l).table).answer

-- Demand 3 of such a load, whose frame is F, under settings that are fixed.
pub record DemandThree (S : Settings) (l : LoadTaken) (F : Frame) : Type 0 where
  -- The bytes that were loaded are the good frame F, and the load gave their length.
  pub frame : frame_of l.frame ≡ ok F
  pub size : (loaded l).answer ≡ ok (length l.frame)
  -- "after the list the plan's bytes, and every call's length or refusal number, are those of 01's two-bit machine": the settings are
  -- given to the machine too
  pub machine : (calls : List Made) → AgreeBy (match_under S) F (list_after S l calls) (machine_after_by (match_under S) F calls)
  -- "Two lists from the same frame leave the same plan if they are alike in whether an extract was accepted and in whether accepted
  -- exchanges are odd in number": on the same buffers or on others, with the same settings.
  pub same_plan : (k : LoadTaken) → k.frame ≡ l.frame → (calls calls' : List Made)
      → extracted_then S l calls ≡ extracted_then S k calls' → odd_then S l calls ≡ odd_then S k calls'
      → plan_then S l calls ≡ plan_then S k calls'
  -- "for every value of the child columns and every fair meaning of the functions the plan has the frame's truth value, sides exchanged
  -- when odd": with mark columns or without (request 8), fair with the default k of the settings
  pub truth : (M : Meaning) → FairUnder S M → (v : Valuation) (calls : List Made)
      → HasValue M v (plan_then S l calls) (frame_value M (values_when (odd_then S l calls) v) F)
  -- "An exchange is accepted exactly when its scratch is at least as long as the plan;"
  pub exchange_taken : (calls : List Made) (scratch : List ℕ)
      → accepted (answer_then S l calls (exchange_with scratch)) ≡ leb (list_after S l calls).n (length scratch)
  -- "an extract exactly when its scratch is too, none was accepted before it and an AND-leaf of the frame matches": under the settings.
  pub extract_taken : (calls : List Made) (scratch : List ℕ)
      → accepted (answer_then S l calls (extract_with scratch))
      ≡ (leb (list_after S l calls).n (length scratch) && (not (extracted_then S l calls) && some_leaf_matches_by (match_under S) F))
  -- "An accepted extract takes the first KNN match, failing that the first match."
  pub pick : (calls : List Made) → extracted_then S l calls ≡ true
      → (X : Extraction) × TookAmong (matches_by (match_under S) F) F X
      × (plan_then S l calls ≡ plan_bytes (extracted_plan X (odd_then S l calls)))

-- It holds of every accepted load, under all settings that do not get 24.
abbrev pub MeetsDemandThree : Type 0
MeetsDemandThree = (S : Settings) → GoodSettings S → (l : LoadTaken) → (F : Frame) × DemandThree S l F
