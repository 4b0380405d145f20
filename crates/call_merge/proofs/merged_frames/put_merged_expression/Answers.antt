-- `put_merged_expression`: the two bytes of And, the held filter after them, the new one where that ended.
use native.Mathlib.Omega.{arith}
use lib.ListN.{length-set}
use Rattle.byte_writer.proofs.Sequence.{first-room, second-room, both-put, head-room, stored-room, stored-put}
use Rattle.call_merge.specs.Merging.{raised_expr}
use Rattle.call_merge.proofs.MergeViews.{and_view}
use Rattle.call_merge.proofs.merged_frames.put_merged_expression.Goals as goal

pub bounds-out-0 : goal.bounds-out-0
bounds-out-0 c =
    omega (arith, head-room (and_view c.args.two.old.parts c.args.two.new.parts) c.requires)

pub bounds-out-1 : goal.bounds-out-1
bounds-out-1 c =
    simp length-set (head-room (and_view c.args.two.old.parts c.args.two.new.parts) c.requires)

pub copy_at-v-requires : goal.copy_at-v-requires
copy_at-v-requires c =
    first-room (raised_expr c.args.two.old.parts.columns) (stored-room (and_view c.args.two.old.parts c.args.two.new.parts) c.requires)

pub put_raised-requires : goal.put_raised-requires
put_raised-requires c =
    let held = c.copy_at-v in
    record {
      room = second-room (stored-room (and_view c.args.two.old.parts c.args.two.new.parts) c.requires) held.ensures held.auto.out;
      columns_bound = c.args.two.few;
    }

pub returns : goal.returns
returns c =
    let held = c.copy_at-v in
    let view = and_view c.args.two.old.parts c.args.two.new.parts in
    stored-put view c.requires
    (both-put (simp length-set (head-room view c.requires)) held.ensures c.put_raised.ensures)
