-- `put_head`: one byte, and the number in two.
use native.Mathlib.Omega.{arith}
use Rattle.byte_writer.proofs.Sequence.{byte-then}
use Rattle.plan_writer.specs.Predicates.{head_of}
use Rattle.plan_writer.proofs.frame_heads.put_head.Goals as goal

pub returns : goal.returns
unfolding head_of
returns c =
    byte-then _ (omega arith) c.put_number.ensures
