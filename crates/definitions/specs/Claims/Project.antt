-- Request 7 of document 02: what is claimed of projected extractions and of the call project; crate `theorems` proves each claim.
use Rattle.std.specs.Prelude.{ℕ, ◌≤◌, ◌<◌, ◌≡◌, Bool, true, false, List, map, length, take, get_or}
use Rattle.std.proofs.Math.Option
use Rattle.std.proofs.Math.Option.{Option, none, some}
use Rattle.definitions.specs.Words.Basics.{ok}
use Rattle.definitions.specs.Words.Limits.{most_items}
use Rattle.definitions.specs.Words.Expression.{left, right, no_side, Frame, Extraction, extracted}
use Rattle.definitions.specs.Bytes.Encode.{plan_bytes}
use Rattle.definitions.specs.Bytes.Good.{AllBytes, GoodPlan}
use Rattle.definitions.specs.Bytes.NodeTable.{NodeRecord}
use Rattle.definitions.specs.Filter.Match.{match_leaf}
use Rattle.definitions.specs.Filter.Extract.{Matcher}
use Rattle.definitions.specs.Filter.Exchange.{exchange_extraction, extracted_plan}
use Rattle.definitions.specs.Filter.Project.{place_in, ChildLists, placed, project_extraction, projection}
use Rattle.definitions.specs.Calls.Base.{Outcome, held_plan}
use Rattle.definitions.specs.Calls.Project.{project}
use Rattle.definitions.specs.Lists.Sessions.{Made, fed, ListOutcome, calls_run_by, accepted, exchanges_odd, SessionBy, Session, after, plan_left, odd_in}
use Rattle.definitions.specs.Lists.OddMachine.{odd_length, OddRun, odd_run}
use Rattle.definitions.specs.Meaning.Values.{Valuation, Meaning, Fair, frame_value, extraction_value}
use Rattle.definitions.specs.Meaning.Matchers.{Lawful, Symmetric}
use Rattle.definitions.specs.Claims.Calls.{CallWrote}
use Rattle.definitions.specs.Claims.Values.{values_when, HasValue}

-- ---- places

-- The place of an index in a list: the first position that has it; where there is none, no position has it.
abbrev pub FirstPlace : (items : List ℕ) → (index : ℕ) → Option ℕ → Type 0
FirstPlace items index none = (i : ℕ) → i < length items → get_or items i 0 ≡ index → ⊥
FirstPlace items index (some place) =
    (place < length items) × (get_or items place 0 ≡ index) × ((i : ℕ) → i < place → get_or items i 0 ≡ index → ⊥)

-- Each index has that place, and no other.
abbrev pub PlaceExactly : Type 0
PlaceExactly =
    ((items : List ℕ) (index : ℕ) → FirstPlace items index (place_in items index))
    × ((items : List ℕ) (index : ℕ) (place : Option ℕ) → FirstPlace items index place → place_in items index ≡ place)

-- ---- the projected extraction

-- Values w over the new columns: the column at each new position has the value of the old column listed there, mark columns keep theirs.
pub record NewColumns (lists : ChildLists) (v w : Valuation) : Type 0 where
  pub on_left : (i : ℕ) → i < length lists.of_left → w left i ≡ v left (get_or lists.of_left i 0)
  pub on_right : (i : ℕ) → i < length lists.of_right → w right i ≡ v right (get_or lists.of_right i 0)
  pub on_marks : (i : ℕ) → w no_side i ≡ v no_side i

-- Whatever the values over the old columns, there are such values over the new ones.
abbrev pub NewColumnsThere : Type 0
NewColumnsThere = (lists : ChildLists) (v : Valuation) → (w : Valuation) × NewColumns lists v w

-- Over the new columns a projection has the value that the extraction has over the old ones, whatever the meaning, fair or not.
abbrev pub ProjectionValue : Type 0
ProjectionValue =
    (M : Meaning) (lists : ChildLists) (v w : Valuation) (X Y : Extraction) → NewColumns lists v w → projection lists X ≡ some Y
    → extraction_value M w Y ≡ extraction_value M v X

-- The lists of an exchanged join.
abbrev pub exchange_lists : ChildLists → ChildLists
exchange_lists lists = record { of_left = lists.of_right; of_right = lists.of_left }

-- The projection of the exchanged extraction by the exchanged lists is the exchanged projection; if one has none, neither has the other.
abbrev pub ProjectionExchanged : Type 0
ProjectionExchanged =
    (lists : ChildLists) (X : Extraction)
    → projection (exchange_lists lists) (exchange_extraction X) ≡ Option.map exchange_extraction (projection lists X)

-- The projection of a good extraction by lists of at most 4,096 items is good, and as long.
abbrev pub ProjectionGood : Type 0
ProjectionGood =
    (lists : ChildLists) (X Y : Extraction) → length lists.of_left ≤ most_items → length lists.of_right ≤ most_items
    → GoodPlan (extracted X) → projection lists X ≡ some Y
    → GoodPlan (extracted Y) × (length (plan_bytes (extracted Y)) ≡ length (plan_bytes (extracted X)))

-- ---- the call

-- The call project with these lists.
abbrev pub project_by : ChildLists → (n : ℕ) → (buffer scratch : List ℕ) → Outcome
project_by lists n buffer scratch = project n buffer scratch lists.of_left lists.of_right

-- What a projection needs: an extraction is held, neither list has over 4,096 items, the scratch is at least as long as the plan, and
-- each child index is in the list of its side.
pub record Projects (lists : ChildLists) (n : ℕ) (buffer scratch : List ℕ) (X : Extraction) : Type 0 where
  pub holds : held_plan n buffer ≡ ok (extracted X)
  pub short_left : length lists.of_left ≤ most_items
  pub short_right : length lists.of_right ≤ most_items
  pub room : n ≤ length scratch
  pub found : placed lists X ≡ true

-- A projection is accepted exactly then.
abbrev pub ProjectedExactly : Type 0
ProjectedExactly =
    (lists : ChildLists) (n : ℕ) (buffer scratch : List ℕ)
    → (accepted (project_by lists n buffer scratch).answer ≡ true → (X : Extraction) × Projects lists n buffer scratch X)
    × ((X : Extraction) → Projects lists n buffer scratch X → accepted (project_by lists n buffer scratch).answer ≡ true)

-- A projection of X wrote the projected one, as long as X, to the plan buffer's start and the old plan to the scratch's, and changed
-- nothing else.
pub record ProjectWrote (lists : ChildLists) (n : ℕ) (buffer scratch : List ℕ) (X : Extraction) (o : Outcome) : Type 0 where
  pub size : o.n ≡ n
  pub plan : take o.n o.buffer ≡ plan_bytes (extracted (project_extraction lists X))
  pub wrote : CallWrote n buffer scratch o

-- An accepted projection is of a held extraction, and does.
abbrev pub ProjectWrites : Type 0
ProjectWrites =
    (lists : ChildLists) (n : ℕ) (buffer scratch : List ℕ) → AllBytes buffer → accepted (project_by lists n buffer scratch).answer ≡ true
    → (X : Extraction) × Projects lists n buffer scratch X
    × ProjectWrote lists n buffer scratch X (project_by lists n buffer scratch)

-- A refused projection keeps n and both buffers.
abbrev pub ProjectKeeps : Type 0
ProjectKeeps =
    (lists : ChildLists) (n : ℕ) (buffer scratch : List ℕ) → accepted (project_by lists n buffer scratch).answer ≡ false
    → ((project_by lists n buffer scratch).n ≡ n) × ((project_by lists n buffer scratch).buffer ≡ buffer)
    × ((project_by lists n buffer scratch).scratch ≡ scratch)

-- ---- lists of calls after it

-- The calls give the answers of the machine with the odd bit alone, and leave its plan and its length.
pub record OddAgree (X : Extraction) (o : ListOutcome) (m : OddRun) : Type 0 where
  pub answers : o.answers ≡ m.answers
  pub plan : plan_left o ≡ plan_bytes (extracted_plan X m.is_odd)
  pub size : o.n ≡ odd_length X m.is_odd

-- A list of calls after a projection, with a matcher and a table.
abbrev pub calls_from : Matcher → Outcome → (table : List NodeRecord) → List Made → ListOutcome
calls_from match o table calls = calls_run_by match o.n o.buffer table calls

-- Whether accepted exchanges are odd in number in such a list.
abbrev pub odd_from : Matcher → Outcome → (table : List NodeRecord) → List Made → Bool
odd_from match o table calls = exchanges_odd calls (calls_from match o table calls).answers

-- A plan that calls left after a projection has this value over w, the new columns' values, which are exchanged when odd.
abbrev pub ValueFrom : Matcher → Outcome → (table : List NodeRecord) → List Made → ChildLists → Meaning → (v w : Valuation) → ℕ → Type 0
ValueFrom match o table calls lists M v w truth =
    NewColumns lists v (values_when (odd_from match o table calls) w) → HasValue M w (plan_left (calls_from match o table calls)) truth

-- An accepted projection is of a held extraction X and gives its length; from it every list of calls, whatever the matcher and the table,
-- gives what the machine with the odd bit alone gives that starts from the projected one, and leaves a plan that has over the new columns
-- the value that X had over the old ones. (A fair meaning is symmetric.)
abbrev pub ListAfterProjection : Type 0
ListAfterProjection =
    (match : Matcher) (lists : ChildLists) (n : ℕ) (buffer scratch : List ℕ) (table : List NodeRecord) → AllBytes buffer
    → let o : Outcome = project_by lists n buffer scratch in
    accepted o.answer ≡ true
    → (X : Extraction) × (Y : Extraction) × (held_plan n buffer ≡ ok (extracted X)) × (projection lists X ≡ some Y) × (o.answer ≡ ok n)
    × ((calls : List Made) → OddAgree Y (calls_from match o table calls) (odd_run Y false (map fed calls)))
    × ((M : Meaning) → Symmetric M → (v w : Valuation) (calls : List Made)
    → ValueFrom match o table calls lists M v w (extraction_value M v X))

-- A projection that is made after a list of calls.
abbrev pub project_after : {match : Matcher} {F : Frame} → SessionBy match F → (before : List Made) → ChildLists → (scratch : List ℕ)
    → Outcome
project_after s before lists scratch = project_by lists (after s before).n (after s before).buffer scratch

-- From a held frame: after any list of calls, an accepted projection and any list after it, with any table, the plan has over the new
-- columns the value that the frame had over its own; the columns that are projected are the frame's, exchanged when odd before.
abbrev pub ListProjectedBy : Matcher → (Asks : Meaning → Type 0) → Type 0
ListProjectedBy match Asks =
    (M : Meaning) → Symmetric M → (v w : Valuation) (F : Frame) (s : SessionBy match F) → Asks M
    → (before : List Made) (lists : ChildLists) (scratch : List ℕ) (table : List NodeRecord) (later : List Made)
    → let o : Outcome = project_after s before lists scratch in
    accepted o.answer ≡ true → ValueFrom match o table later lists M (values_when (odd_in s before) v) w (frame_value M v F)

-- It does with any lawful matcher,
abbrev pub AnyMatcherProjects : Type 1
AnyMatcherProjects =
    (match : Matcher) (Asks : Meaning → Type 0) → Lawful match Asks → ListProjectedBy match Asks

-- and with `match_leaf` in every fair meaning.
abbrev pub ListProjectedValue : Type 0
ListProjectedValue =
    (M : Meaning) → Fair M → (v w : Valuation) (F : Frame) (s : Session F)
    → (before : List Made) (lists : ChildLists) (scratch : List ℕ) (table : List NodeRecord) (later : List Made)
    → let o : Outcome = project_after s before lists scratch in
    accepted o.answer ≡ true → ValueFrom match_leaf o table later lists M (values_when (odd_in s before) v) w (frame_value M v F)
