-- The second argument begins where the first ended.
use native.Mathlib.Omega.{arith}
use Rattle.byte_writer.proofs.Sequence.{both-put}
use Rattle.plan_writer.proofs.arguments.put_both.Goals as goal

pub returns : goal.returns
returns c =
    both-put (omega (arith, c.requires.room)) c.reproject_column_references_for_side-v.ensures
    c.reproject_column_references_for_side.ensures
