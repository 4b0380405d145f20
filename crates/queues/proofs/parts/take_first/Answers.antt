-- `take_first`: the invariant is that k frames are moved down and the rest is as it was.
use native.Mathlib.Omega.{arith}
use Rattle.queues.proofs.Shifting.{count-is, begins, has-next, goes_on, ends}
use Rattle.queues.proofs.parts.take_first.Goals as goal

pub overflow_sub-last : goal.overflow_sub-last
overflow_sub-last c = omega (arith, count-is c.args.part.now c.requires)

pub loop-k-init : goal.loop-k-init
loop-k-init c = begins c.args.part.now c.requires _

pub move_frame-requires : goal.move_frame-requires
move_frame-requires c =
    has-next c.args.part.now c.requires _ c.loop-k.k c.loop-k.part (omega (arith, count-is c.args.part.now c.requires))
    c.loop-k-test.true c.loop-k.invariant

pub loop-k-preserved : goal.loop-k-preserved
loop-k-preserved c =
    goes_on c.args.part.now c.requires _ c.loop-k.k c.loop-k.part (omega (arith, count-is c.args.part.now c.requires))
    c.loop-k-test.true c.loop-k.invariant c.move_frame.new.part c.move_frame.auto.part c.move_frame.ensures

pub returns : goal.returns
returns c =
    ends c.args.part.now c.requires _ c.loop-k.k c.loop-k.part (omega (arith, count-is c.args.part.now c.requires))
    c.loop-k-test.false c.loop-k.invariant
