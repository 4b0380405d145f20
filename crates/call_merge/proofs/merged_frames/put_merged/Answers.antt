-- `put_merged`: head and tables, and the And into the part where they ended.
use native.Mathlib.Omega.{arith}
use Rattle.byte_writer.proofs.Sequence.{from_zero, part_room, part-put, first-room, second-room, both-put, stored-room, stored-put}
use Rattle.call_merge.specs.Merging.{merged_expr}
use Rattle.call_merge.proofs.MergeViews.{merged-view}
use Rattle.call_merge.proofs.merged_frames.put_merged.Goals as goal

pub put_tables-w-requires : goal.put_tables-w-requires
put_tables-w-requires c =
    first-room merged_expr (stored-room (merged-view _ _) c.requires)

pub put_merged_expression-requires : goal.put_merged_expression-requires
put_merged_expression-requires c =
    let tables = c.put_tables-w in
    let room = stored-room (merged-view c.args.two.old.parts c.args.two.new.parts) c.requires in
    part_room (second-room room (from_zero tables.ensures) tables.auto.out)

pub returns : goal.returns
returns c =
    let and = c.put_merged_expression in
    let tables = c.put_tables-w in
    stored-put (merged-view c.args.two.old.parts c.args.two.new.parts) c.requires
    (both-put (omega arith) (from_zero tables.ensures) (part-put tables.new.out and.new.out tables.result and.ensures))
