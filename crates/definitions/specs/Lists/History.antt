-- Requests 2 and 7 of document 02: lists of load, extract, exchange, merge and project from an empty plan, and the machine that they are
-- held to. (Ours.)
use Rattle.std.specs.Prelude.{ℕ, Bool, false, ◌&&◌, List, [], ◌∷◌, length, leb, if◌then◌else◌}
use Rattle.std.proofs.Math.Option.{Option, none, some}
use Rattle.definitions.specs.Words.Basics.{Result, ok, refused}
use Rattle.definitions.specs.Words.Expression.{Frame, Extraction, Plan, empty, held, extracted}
use Rattle.definitions.specs.Bytes.Encode.{frame_bytes, plan_bytes}
use Rattle.definitions.specs.Bytes.Plans.{frame_of}
use Rattle.definitions.specs.Bytes.Good.{AllBytes, nodes}
use Rattle.definitions.specs.Bytes.NodeTable.{NodeRecord}
use Rattle.definitions.specs.Filter.Extract.{Matcher}
use Rattle.definitions.specs.Filter.Exchange.{exchange_frame, extracted_plan}
use Rattle.definitions.specs.Filter.Merge.{merge_frames, over_limits}
use Rattle.definitions.specs.Filter.Project.{ChildLists, projection}
use Rattle.definitions.specs.Calls.Base.{LoadOutcome, load, Outcome}
use Rattle.definitions.specs.Calls.Merge.{MergeOutcome, merge}
use Rattle.definitions.specs.Calls.Project.{short_lists, project}
use Rattle.definitions.specs.Lists.Machine.{Bits, fresh, machine_plan, Step, machine_step}
use Rattle.definitions.specs.Lists.Sessions.{Made, make_by}
use Rattle.definitions.specs.Lists.OddMachine.{odd_length, OddStep, odd_step}

-- One call: a load, an extract or exchange, a merge, or a project.
pub data Call : Type 0 where
  loading : (frame : List ℕ) → Call
  making : Made → Call
  merging : (frame scratch : List ℕ) → Call
  projecting : (scratch of_left of_right : List ℕ) → Call

-- ---- the machine

-- Nothing held, or the frame that was loaded or merged last, and both bits since, or the extraction that was projected last, and the odd
-- bit since.
pub data State : Type 0 where
  nothing : State
  started : Frame → Bits → State
  projected : Extraction → (odd : Bool) → State

-- The plan of a state.
unfoldable pub state_plan : Matcher → State → Plan
state_plan match nothing = empty
state_plan match (started F bits) = machine_plan match F bits
state_plan match (projected X odd) = extracted_plan X odd

-- The machine's answer, and its state afterwards.
pub record Answered : Type 0 where
  pub answer : Result ℕ
  pub state : State

-- A refused call gives its number and changes nothing.
unfoldable pub refuse_call : State → ℕ → Answered
refuse_call s number = record { answer = refused number; state = s }

-- An accepted load or merge gives a frame's length and starts afresh from it.
unfoldable pub start_at : Frame → Answered
start_at F = record { answer = ok (length (frame_bytes F)); state = started F fresh }

-- 17 where the table is shorter than the frame's node count, else the machine starts afresh from it (request 6).
unfoldable pub start_in : (places : ℕ) → State → Frame → Answered
start_in places s F = if leb (nodes F.expr) places then start_at F else refuse_call s 17

-- Load: 1 to 8, 9, 17; `room` is the plan buffer's length, `places` the table's.
unfoldable pub load_call : (room places : ℕ) → State → Result Frame → Answered
load_call room places s (refused number) = refuse_call s number
load_call room places s (ok F) = if leb (length (frame_bytes F)) room then start_in places s F else refuse_call s 9

-- Extract and exchange: 11, else what the two-bit machine does, or after a projection the one with the odd bit alone.
unfoldable pub make_call : Matcher → State → Made → Answered
make_call match nothing c = refuse_call nothing 11
make_call match (started F bits) c =
    let step : Step = machine_step match F bits c.kind (length c.scratch) in
    record { answer = step.answer; state = started F step.bits }
make_call match (projected X odd) c =
    let step : OddStep = odd_step X odd c.kind (length c.scratch) in
    record { answer = step.answer; state = projected X step.is_odd }

-- The frame that is held where none was extracted: exchanged where the odd bit is 1.
abbrev pub held_now : Frame → (odd : Bool) → Frame
held_now F odd = if odd then exchange_frame F else F

-- A merged frame: 16, 9, 17, else the machine starts afresh from it.
unfoldable pub merged_call : (n scratch room places : ℕ) → State → Frame → Answered
merged_call n scratch room places s M =
    if over_limits M then refuse_call s 16 else
    if leb n scratch && leb (length (frame_bytes M)) room then start_in places s M else
    refuse_call s 9

-- Merge, by the state's plan and its length: 1 to 8, 11, 12, 16, 9, 17. (10 never comes, because what is held is good.)
unfoldable pub merge_call : (n scratch room places : ℕ) → State → Plan → Result Frame → Answered
merge_call n scratch room places s plan (refused number) = refuse_call s number
merge_call n scratch room places s empty (ok new) = refuse_call s 11
merge_call n scratch room places s (extracted X) (ok new) = refuse_call s 12
merge_call n scratch room places s (held old) (ok new) = merged_call n scratch room places s (merge_frames old new)

-- A projection: 20 where there is none, else its length, and it is held.
unfoldable pub projected_call : State → Option Extraction → Answered
projected_call s none = refuse_call s 20
projected_call s (some Y) = record { answer = ok (odd_length Y false); state = projected Y false }

-- Project, by the state's plan and its length: 11, 18, 19, 9, 20. (10 never comes here either.)
unfoldable pub project_call : ChildLists → (n scratch : ℕ) → State → Plan → Answered
project_call lists n scratch s empty = refuse_call s 11
project_call lists n scratch s (held F) = refuse_call s 18
project_call lists n scratch s (extracted X) =
    if short_lists lists then
    (if leb n scratch then projected_call s (projection lists X) else refuse_call s 9)
    else refuse_call s 19

-- One call, over a plan buffer and a table of these lengths.
unfoldable pub machine_call : Matcher → (room places : ℕ) → State → Call → Answered
machine_call match room places s (loading frame) = load_call room places s (frame_of frame)
machine_call match room places s (making c) = make_call match s c
machine_call match room places s (merging frame scratch) =
    let plan : Plan = state_plan match s in
    merge_call (length (plan_bytes plan)) (length scratch) room places s plan (frame_of frame)
machine_call match room places s (projecting scratch of_left of_right) =
    let plan : Plan = state_plan match s in
    project_call (record { of_left = of_left; of_right = of_right }) (length (plan_bytes plan)) (length scratch) s plan

-- The answers of a list of calls, and the state at its end.
pub record History : Type 0 where
  pub answers : List (Result ℕ)
  pub state : State

-- The machine fed a list of calls.
unfoldable pub machine_history : Matcher → (room places : ℕ) → State → List Call → History
machine_history match room places s [] = record { answers = []; state = s }
machine_history match room places s (c ∷ cs) =
    let one : Answered = machine_call match room places s c in
    let after : History = machine_history match room places one.state cs in
    record { answers = one.answer ∷ after.answers; state = after.state }

-- ---- the calls

-- What extract, exchange and project leave but for the scratch; the table is as it was.
abbrev pub but_scratch : Outcome → (table : List NodeRecord) → LoadOutcome
but_scratch o table = record { answer = o.answer; n = o.n; buffer = o.buffer; table = table }

-- What merge leaves but for the scratch.
abbrev pub merged_but : MergeOutcome → LoadOutcome
merged_but o = record { answer = o.answer; n = o.n; buffer = o.buffer; table = o.table }

-- One call on n, the plan buffer and the table.
unfoldable pub one_call_by : Matcher → (n : ℕ) → (buffer : List ℕ) → (table : List NodeRecord) → Call → LoadOutcome
one_call_by match n buffer table (loading frame) = load frame n buffer table
one_call_by match n buffer table (making c) = but_scratch (make_by match c.kind n buffer c.scratch table) table
one_call_by match n buffer table (merging frame scratch) = merged_but (merge frame n buffer scratch table)
one_call_by match n buffer table (projecting scratch of_left of_right) = but_scratch (project n buffer scratch of_left of_right) table

-- The answers of such a list, and n, the plan buffer and the table at its end.
pub record HistoryOutcome : Type 0 where
  pub answers : List (Result ℕ)
  pub n : ℕ
  pub buffer : List ℕ
  pub table : List NodeRecord

-- A list of calls, each given the last n, and the plan buffer and the table as they were left.
unfoldable pub history_by : Matcher → (n : ℕ) → (buffer : List ℕ) → (table : List NodeRecord) → List Call → HistoryOutcome
history_by match n buffer table [] = record { answers = []; n = n; buffer = buffer; table = table }
history_by match n buffer table (c ∷ cs) =
    let one : LoadOutcome = one_call_by match n buffer table c in
    let after : HistoryOutcome = history_by match one.n one.buffer one.table cs in
    record { answers = one.answer ∷ after.answers; n = after.n; buffer = after.buffer; table = after.table }

-- The frame that a call hands over is of bytes.
abbrev pub FrameIsBytes : Call → Type 0
FrameIsBytes (loading frame) = AllBytes frame
FrameIsBytes (making c) = Unit {0}
FrameIsBytes (merging frame scratch) = AllBytes frame
FrameIsBytes (projecting scratch of_left of_right) = Unit {0}

-- Those of a list are.
abbrev pub FramesAreBytes : List Call → Type 0
FramesAreBytes [] = Unit {0}
FramesAreBytes (c ∷ cs) = FrameIsBytes c × FramesAreBytes cs
