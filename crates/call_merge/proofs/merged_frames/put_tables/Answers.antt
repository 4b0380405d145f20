-- `put_tables`: first byte and the sum of the counts, the held records, the new ones where those ended.
use native.Mathlib.Omega.{arith}
use Rattle.definitions.specs.Words.Basics.{big_endian}
use Rattle.plan_writer.specs.Predicates.{frame_head}
use Rattle.byte_writer.proofs.Sequence.{second-room, both-put, head-room, rest-room, headed-put}
use Rattle.call_merge.proofs.MergeViews.{tables-view}
use Rattle.call_merge.proofs.merged_frames.put_tables.Goals as goal

pub put_frame_head-w-requires : goal.put_frame_head-w-requires
unfolding big_endian frame_head
put_frame_head-w-requires c =
    head-room (tables-view _ _) c.requires

pub copy_at-requires : goal.copy_at-requires
unfolding big_endian frame_head
copy_at-requires c =
    let held = c.copy_at-v in
    let head = c.put_frame_head-w in
    let fits = c.requires in
    second-room (rest-room (tables-view _ _) fits head.ensures head.auto.out) held.ensures held.auto.out

pub returns : goal.returns
unfolding big_endian frame_head
returns c =
    let head = c.put_frame_head-w in
    let fits = c.requires in
    let room = (rest-room (tables-view _ _) fits head.ensures head.auto.out).room in
    headed-put (tables-view _ _) head.ensures
    (both-put (omega (arith, room)) c.copy_at-v.ensures
    c.copy_at.ensures)
