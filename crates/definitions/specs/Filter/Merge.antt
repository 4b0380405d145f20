-- Request 2 of document 02: a second filter on the same join, joined to the held one by And.
use Rattle.std.specs.Prelude.{ℕ, ◌+◌, Bool, ◌||◌, ◌++◌, length, ltb}
use Rattle.definitions.specs.Words.Limits.{most_bytes, most_nodes, most_levels, most_records}
use Rattle.definitions.specs.Words.Expression.{Expr, and, Frame}
use Rattle.definitions.specs.Words.References.{map_columns}
use Rattle.definitions.specs.Bytes.Encode.{frame_bytes}
use Rattle.definitions.specs.Bytes.Good.{nodes, depth}

-- The expression with its columns renumbered by a count.
unfoldable pub raised : (by : ℕ) → Expr → Expr
raised by e = map_columns (λ index. by + index) e

-- The held filter And the new one: the held records followed by the new ones, equals kept, the new columns renumbered by the held count.
unfoldable pub merge_frames : (old new : Frame) → Frame
merge_frames old new = record {
  records = old.records ++ new.records;
  expr = and old.expr (raised (length old.records) new.expr);
}

-- Whether a frame is over a limit of 01: on bytes, nodes, depth or records. (Two good frames, merged, are over no other.)
unfoldable pub over_limits : Frame → Bool
over_limits F =
    ltb most_bytes (length (frame_bytes F)) ||
    (ltb most_nodes (nodes F.expr) || (ltb most_levels (depth F.expr) || ltb most_records (length F.records)))
