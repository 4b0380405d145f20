-- Two frames that are merged, and the bytes of the merged frame and of its parts.
use Rattle.std.specs.Prelude.{ℕ, ◌+◌, List, ◌++◌, length}
use Rattle.definitions.specs.Words.Expression as tree
use Rattle.definitions.specs.Bytes.Encode.{expr_bytes, records_bytes, frame_bytes}
use Rattle.definitions.specs.Filter.Merge.{raised, merge_frames}
use Rattle.frame_reader.specs.Frames.{FrameAt}
use Rattle.frame_reader.specs.declared.frame_bodies.Frame.{Frame}
use Rattle.byte_writer.specs.Writing.{Both}
use Rattle.plan_writer.specs.Predicates.{frame_head}

-- The held frame is the whole of s, the new one the whole of t.
abbrev pub FramesAt : (s : List ℕ) → Frame → (t : List ℕ) → Frame → tree.Frame × tree.Frame → Type 0
FramesAt s f t g = Both (FrameAt s f (length s)) (FrameAt t g (length t))

-- The bytes of the merged frame.
abbrev pub merged_frame : tree.Frame × tree.Frame → List ℕ
merged_frame x = frame_bytes (merge_frames x.0 x.1)

-- Its head, the held records and the new ones.
abbrev pub merged_tables : tree.Frame × tree.Frame → List ℕ
merged_tables x =
    frame_head (length x.0.records + length x.1.records) ++ (records_bytes x.0.records ++ records_bytes x.1.records)

-- Its expression.
abbrev pub merged_expr : tree.Frame × tree.Frame → List ℕ
merged_expr x = expr_bytes (merge_frames x.0 x.1).expr

-- The expression of a frame, its columns renumbered by a count.
abbrev pub raised_expr : (by : ℕ) → tree.Frame → List ℕ
raised_expr by F = expr_bytes (raised by F.expr)
