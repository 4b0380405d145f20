-- What is claimed of lists of calls, demand 3: they are the two-bit machine's, which leave the same plan, when a call is accepted.
use Rattle.std.specs.Prelude.{ℕ, ◌≡◌, Bool, true, ◌&&◌, not, List, ◌∷◌, ◌++◌, length, leb}
use Rattle.definitions.specs.Words.Basics.{Result, ok, any}
use Rattle.definitions.specs.Words.Expression.{Frame, held}
use Rattle.definitions.specs.Bytes.Encode.{frame_bytes, plan_bytes}
use Rattle.definitions.specs.Bytes.Plans.{frame_of}
use Rattle.definitions.specs.Bytes.Good.{AllBytes, nodes, GoodPlan}
use Rattle.definitions.specs.Bytes.NodeTable.{NodeRecord}
use Rattle.definitions.specs.Filter.Match.{match_leaf}
use Rattle.definitions.specs.Filter.Extract.{Matcher, matches_by, is_match}
use Rattle.definitions.specs.Calls.Base.{load}
use Rattle.definitions.specs.Lists.Machine.{machine_plan, machine_length, Run}
use Rattle.definitions.specs.Lists.Sessions.{Made, extract_with, exchange_with, ListOutcome, machine_after, accepted, SessionBy, Session, after, length_after, plan_left, plan_after, extracted_in, odd_in, answer_after}

-- A good frame is loaded exactly when the plan buffer has room for its bytes and the table for its nodes.
abbrev pub LoadAccepted : Type 0
LoadAccepted =
    (F : Frame) (n : ℕ) (buffer : List ℕ) (table : List NodeRecord) → GoodPlan (held F)
    → accepted (load (frame_bytes F) n buffer table).answer
    ≡ (leb (length (frame_bytes F)) (length buffer) && leb (nodes F.expr) (length table))

-- A call left this n, plan buffer and table in a session of this frame: all that is claimed of sessions holds from there. (Ours.)
abbrev pub LeavesSession : Matcher → Frame → (n : ℕ) → (buffer : List ℕ) → (table : List NodeRecord) → Type 0
LeavesSession match F n buffer table = (s : SessionBy match F) × (s.n ≡ n) × (s.buffer ≡ buffer) × (s.table ≡ table)

-- An accepted load is of a good frame, gives its length, and leaves it held, whatever the matcher: a session of that frame.
abbrev pub LoadHoldsBy : Matcher → Type 0
LoadHoldsBy match =
    (frame : List ℕ) (n : ℕ) (buffer : List ℕ) (table : List NodeRecord) → AllBytes frame
    → accepted (load frame n buffer table).answer ≡ true
    → (F : Frame) × (frame_of frame ≡ ok F) × ((load frame n buffer table).answer ≡ ok (length frame))
    × LeavesSession match F (load frame n buffer table).n (load frame n buffer table).buffer (load frame n buffer table).table

-- 01's, with `match_leaf`.
abbrev pub LoadHolds : Type 0
LoadHolds = LoadHoldsBy match_leaf

-- The calls give the machine's answers and walks, and leave the machine's plan and its length.
pub record AgreeBy (match : Matcher) (F : Frame) (o : ListOutcome) (m : Run) : Type 0 where
  pub answers : o.answers ≡ m.answers
  pub walks : o.walks ≡ m.walks
  pub plan : plan_left o ≡ plan_bytes (machine_plan match F m.bits)
  pub size : o.n ≡ machine_length match F m.bits

-- 01's, with `match_leaf`.
abbrev pub Agree : Frame → ListOutcome → Run → Type 0
Agree = AgreeBy match_leaf

-- From a held frame every list of calls gives what the two-bit machine gives.
abbrev pub ListOfCalls : Type 0
ListOfCalls = (F : Frame) (s : Session F) (calls : List Made) → Agree F (after s calls) (machine_after F calls)

-- The answers of a list are those of its calls, each made after the calls before it.
abbrev pub AnswersInPlace : Type 0
AnswersInPlace =
    (F : Frame) (s : Session F) (before : List Made) (c : Made) (later : List Made)
    → (others : List (Result ℕ))
    × ((after s (before ++ (c ∷ later))).answers ≡ (after s before).answers ++ (answer_after s before c ∷ others))

-- Two lists from the same frame that are alike in both leave the same plan.
abbrev pub SamePlan : Type 0
SamePlan =
    (F : Frame) (s t : Session F) (calls calls' : List Made)
    → extracted_in s calls ≡ extracted_in t calls' → odd_in s calls ≡ odd_in t calls' → plan_after s calls ≡ plan_after t calls'

-- Whether an AND-leaf of a frame matches.
unfoldable pub some_leaf_matches_by : Matcher → Frame → Bool
some_leaf_matches_by match F = any is_match (matches_by match F)

-- 01's, with `match_leaf`.
abbrev pub some_leaf_matches : Frame → Bool
some_leaf_matches = some_leaf_matches_by match_leaf

-- After every list: an exchange is accepted exactly when its scratch is at least as long as the plan.
abbrev pub ExchangeAccepted : Type 0
ExchangeAccepted =
    (F : Frame) (s : Session F) (before : List Made) (scratch : List ℕ)
    → accepted (answer_after s before (exchange_with scratch)) ≡ leb (length_after s before) (length scratch)

-- After every list: an extract exactly when its scratch is too, none was accepted before it and an AND-leaf matches.
abbrev pub ExtractAccepted : Type 0
ExtractAccepted =
    (F : Frame) (s : Session F) (before : List Made) (scratch : List ℕ)
    → accepted (answer_after s before (extract_with scratch))
    ≡ (leb (length_after s before) (length scratch) && (not (extracted_in s before) && some_leaf_matches F))
