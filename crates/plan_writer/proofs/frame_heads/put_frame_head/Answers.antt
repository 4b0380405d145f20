-- `put_frame_head`: the first byte is 1, the number the count.
use Rattle.plan_writer.specs.Predicates.{head_of, frame_head}
use Rattle.plan_writer.proofs.frame_heads.put_frame_head.Goals as goal

pub returns : goal.returns
unfolding head_of frame_head
returns c =
    c.put_head.ensures
