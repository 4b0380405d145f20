-- `negate_sides`: a turn negates the side of the next record.
use native.Mathlib.Omega.{arith}
use lib.ListN.{length-set}
use Rattle.call_exchange.proofs.RecordLaws.{begun-next, all-begun}
use Rattle.call_exchange.proofs.exchanged_frames.negate_sides.Goals as goal

pub loop-i-init : goal.loop-i-init
loop-i-init c =
    (c.requires, λ records counted head there tail is. is)

pub loop-i-preserved : goal.loop-i-preserved
loop-i-preserved c =
    let other = c.negated_number-other in
    let loop = c.loop-i in
    (simp length-set loop.invariant.0, begun-next loop.i other.result c.loop-i-test.true other.ensures loop.invariant.1)

pub returns : goal.returns
returns c =
    all-begun c.loop-i.i (omega arith) c.loop-i.invariant.1
