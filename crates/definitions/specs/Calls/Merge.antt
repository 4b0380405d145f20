-- Request 2 of document 02: the call merge: 1 to 8, 10, 11, 12, 16, 9, 17.
use Rattle.std.specs.Prelude.{ℕ, ◌&&◌, List, length, leb, if◌then◌else◌}
use Rattle.definitions.specs.Words.Basics.{Result, ok, refused, map_result}
use Rattle.definitions.specs.Words.Expression.{Frame, Plan, empty, held, extracted}
use Rattle.definitions.specs.Bytes.Encode.{frame_bytes}
use Rattle.definitions.specs.Bytes.Plans.{frame_of}
use Rattle.definitions.specs.Bytes.NodeTable.{NodeRecord}
use Rattle.definitions.specs.Filter.Merge.{merge_frames, over_limits}
use Rattle.definitions.specs.Calls.Base.{tabled, filled_by, Outcome, finish, held_plan}

-- A merged frame: 16 where it is over a limit, 9 where the scratch is shorter than n or the plan buffer than the frame, then 17.
unfoldable pub merged_frame : (n scratch room places : ℕ) → Frame → Result Frame
merged_frame n scratch room places M =
    if over_limits M then refused 16 else
    if leb n scratch && leb (length (frame_bytes M)) room then tabled places M else
    refused 9

-- The frame that a merge leaves: 1 to 8 of the new frame, then 10, 11, 12 of the held plan, then what the merged frame gives.
unfoldable pub new_after_merge : (n scratch room places : ℕ) → (new : Result Frame) → (old : Result Plan) → Result Frame
new_after_merge n scratch room places (refused number) old = refused number
new_after_merge n scratch room places (ok new) (refused number) = refused 10
new_after_merge n scratch room places (ok new) (ok empty) = refused 11
new_after_merge n scratch room places (ok new) (ok (extracted X)) = refused 12
new_after_merge n scratch room places (ok new) (ok (held old)) = merged_frame n scratch room places (merge_frames old new)

-- What a merge gives: the new plan's length or a refusal, and what n, both buffers and the table are afterwards.
pub record MergeOutcome : Type 0 where
  pub answer : Result ℕ
  pub n : ℕ
  pub buffer : List ℕ
  pub scratch : List ℕ
  pub table : List NodeRecord

-- An outcome and the table afterwards: filled with the new plan's nodes, on a refusal as it was (request 6).
unfoldable pub with_table : Outcome → (table : List NodeRecord) → MergeOutcome
with_table o table = record { answer = o.answer; n = o.n; buffer = o.buffer; scratch = o.scratch; table = table }

-- The call merge; it has scratch like extract and fills the table like load, whatever that held.
unfoldable pub merge : (frame : List ℕ) → (n : ℕ) → (buffer scratch : List ℕ) → (table : List NodeRecord) → MergeOutcome
merge frame n buffer scratch table =
    let new : Result Frame =
    new_after_merge n (length scratch) (length buffer) (length table) (frame_of frame) (held_plan n buffer) in
    with_table (finish n buffer scratch (map_result frame_bytes new)) (filled_by new table)
