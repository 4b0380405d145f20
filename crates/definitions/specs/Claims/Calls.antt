-- What is claimed of one call, demand 1: what load, extract and exchange change, and the numbers of each call's refusals.
use Rattle.std.specs.Prelude.{ℕ, ◌≤◌, ◌≡◌, true, false, List, [], ◌∷◌, length, take, drop, eqb}
use Rattle.std.proofs.Math.Option.{some}
use Rattle.definitions.specs.Words.Basics.{Result, ok, refused, any}
use Rattle.definitions.specs.Words.Expression.{Frame, Extraction, Plan, held, extracted}
use Rattle.definitions.specs.Bytes.Encode.{plan_bytes}
use Rattle.definitions.specs.Bytes.Plans.{frame_of}
use Rattle.definitions.specs.Bytes.Good.{AllBytes, nodes}
use Rattle.definitions.specs.Bytes.NodeTable.{NodeRecord, node_table}
use Rattle.definitions.specs.Filter.Match.{match_leaf}
use Rattle.definitions.specs.Filter.Extract.{Matcher, extraction_by}
use Rattle.definitions.specs.Filter.Exchange.{exchange_plan}
use Rattle.definitions.specs.Calls.Base.{LoadOutcome, load, Outcome, held_plan}
use Rattle.definitions.specs.Lists.Machine.{Kind, extract_call, exchange_call}
use Rattle.definitions.specs.Lists.Sessions.{make, accepted}

-- A refused load keeps n, the plan buffer and the table; a refused extract or exchange keeps n and both buffers.
abbrev pub RefusedKeeps : Type 0
RefusedKeeps =
    ((frame : List ℕ) (n : ℕ) (buffer : List ℕ) (table : List NodeRecord) → accepted (load frame n buffer table).answer ≡ false
    → ((load frame n buffer table).n ≡ n) × ((load frame n buffer table).buffer ≡ buffer) × ((load frame n buffer table).table ≡ table))
    × ((kind : Kind) (n : ℕ) (buffer scratch : List ℕ) (table : List NodeRecord)
    → accepted (make kind n buffer scratch table).answer ≡ false
    → ((make kind n buffer scratch table).n ≡ n) × ((make kind n buffer scratch table).buffer ≡ buffer)
    × ((make kind n buffer scratch table).scratch ≡ scratch))

-- From a place on they are as they were, and as many.
pub record SameFrom {A : Type 0} (place : ℕ) (old new : List A) : Type 0 where
  pub as_many : length new ≡ length old
  pub rest : drop place new ≡ drop place old

-- Request 6: a table was filled with a frame's records, and those past them kept.
pub record Filled (F : Frame) (table after : List NodeRecord) : Type 0 where
  pub enough : nodes F.expr ≤ length table
  pub records : take (nodes F.expr) after ≡ node_table F
  pub others : SameFrom (nodes F.expr) table after

-- A load wrote the frame to the plan buffer's start, filled the table with its records, and changed nothing else.
pub record LoadWrote (frame buffer : List ℕ) (table : List NodeRecord) (o : LoadOutcome) : Type 0 where
  pub answer : o.answer ≡ ok (length frame)
  pub size : o.n ≡ length frame
  pub plan : take (length frame) o.buffer ≡ frame
  pub others : SameFrom (length frame) buffer o.buffer
  pub filled : (F : Frame) × (frame_of frame ≡ ok F) × Filled F table o.table

-- A call copied the old plan to the scratch's first n bytes, wrote a plan of the length that it gave, and changed nothing else.
pub record CallWrote (n : ℕ) (buffer scratch : List ℕ) (o : Outcome) : Type 0 where
  pub answer : o.answer ≡ ok o.n
  pub copied : take n o.scratch ≡ take n buffer
  pub others : SameFrom o.n buffer o.buffer
  pub others_of_scratch : SameFrom n scratch o.scratch

-- An exchange wrote the bytes of the held plan exchanged, an extract those of the held frame's extraction.
abbrev pub PlanWritten : Matcher → Kind → (n : ℕ) → (buffer : List ℕ) → Outcome → Type 0
PlanWritten match exchange_call n buffer o =
    (p : Plan) × (held_plan n buffer ≡ ok p) × (take o.n o.buffer ≡ plan_bytes (exchange_plan p))
PlanWritten match extract_call n buffer o =
    (F : Frame) × (X : Extraction) × (held_plan n buffer ≡ ok (held F)) × (extraction_by match F ≡ some X)
    × (take o.n o.buffer ≡ plan_bytes (extracted X))

-- An accepted call writes what 01 says and keeps every other byte of both buffers.
abbrev pub AcceptedWrites : Type 0
AcceptedWrites =
    ((frame : List ℕ) (n : ℕ) (buffer : List ℕ) (table : List NodeRecord) → accepted (load frame n buffer table).answer ≡ true
    → LoadWrote frame buffer table (load frame n buffer table))
    × ((kind : Kind) (n : ℕ) (buffer scratch : List ℕ) (table : List NodeRecord) → AllBytes buffer
    → accepted (make kind n buffer scratch table).answer ≡ true
    → CallWrote n buffer scratch (make kind n buffer scratch table)
    × PlanWritten match_leaf kind n buffer (make kind n buffer scratch table))

-- The refusals of each call, in the order of 01 and 02; print is request 1's, merge request 2's, 17 request 6's, project request 7's,
-- put and serve are request 12's.
unfoldable pub load_refusals : List ℕ
load_refusals = 1 ∷ 2 ∷ 3 ∷ 4 ∷ 5 ∷ 6 ∷ 7 ∷ 8 ∷ 9 ∷ 17 ∷ []

unfoldable pub extract_refusals : List ℕ
extract_refusals = 10 ∷ 11 ∷ 12 ∷ 9 ∷ 13 ∷ []

unfoldable pub exchange_refusals : List ℕ
exchange_refusals = 10 ∷ 11 ∷ 9 ∷ []

unfoldable pub logical_refusals : List ℕ
logical_refusals = 1 ∷ 2 ∷ 3 ∷ 4 ∷ 5 ∷ 7 ∷ []

unfoldable pub print_refusals : List ℕ
print_refusals = 1 ∷ 2 ∷ 3 ∷ 4 ∷ 5 ∷ 6 ∷ 7 ∷ 8 ∷ 15 ∷ []

unfoldable pub merge_refusals : List ℕ
merge_refusals = 1 ∷ 2 ∷ 3 ∷ 4 ∷ 5 ∷ 6 ∷ 7 ∷ 8 ∷ 10 ∷ 11 ∷ 12 ∷ 16 ∷ 9 ∷ 17 ∷ []

unfoldable pub project_refusals : List ℕ
project_refusals = 10 ∷ 11 ∷ 18 ∷ 19 ∷ 9 ∷ 20 ∷ []

unfoldable pub put_refusals : List ℕ
put_refusals = 21 ∷ 10 ∷ 1 ∷ 22 ∷ 23 ∷ []

unfoldable pub serve_refusals : List ℕ
serve_refusals = 10 ∷ 9 ∷ []

-- Under settings (request 13) those of extract, and of the call that extracts all (request 14).
unfoldable pub settled_refusals : List ℕ
settled_refusals = 24 ∷ 10 ∷ 11 ∷ 12 ∷ 9 ∷ 13 ∷ []

unfoldable pub all_refusals : List ℕ
all_refusals = 24 ∷ 1 ∷ 2 ∷ 3 ∷ 4 ∷ 5 ∷ 6 ∷ 7 ∷ 8 ∷ 9 ∷ []

-- A value, or a refusal with one of these numbers.
abbrev pub RefusedBy : {A : Type 0} → (numbers : List ℕ) → Result A → Type 0
RefusedBy numbers (ok a) = Unit {0}
RefusedBy numbers (refused number) = any (eqb number) numbers ≡ true
