-- `some_of_ours`: the first that would be ours decides; without one the row has none.
use native.Mathlib.Omega.{arith}
use Rattle.leaf_verdicts.proofs.LaidLaws.{index-node}
use Rattle.leaf_verdicts.proofs.SmallLaws.{looking-begins, looking-first, looking-found, looking-goes-on, looking-ends}
use Rattle.leaf_verdicts.proofs.small_letters.some_of_ours.Goals as goal

pub loop-init : goal.loop-init
loop-init c = looking-begins c.requires _ (omega arith)

pub ours_in_small-requires : goal.ours_in_small-requires
ours_in_small-requires c = looking-first c.loop.invariant (omega (arith, c.loop-test.true))

pub returns-then-ours_in_small : goal.returns-then-ours_in_small
returns-then-ours_in_small c =
    looking-found c.loop.invariant (omega (arith, c.loop-test.true)) c.ours_in_small.ensures c.if-ours_in_small.true

pub after-next-requires : goal.after-next-requires
after-next-requires c = index-node (looking-first c.loop.invariant (omega (arith, c.loop-test.true)))

pub loop-preserved : goal.loop-preserved
loop-preserved c =
    looking-goes-on c.loop.invariant (omega (arith, c.loop-test.true)) c.ours_in_small.ensures c.if-ours_in_small.false
    c.after-next.ensures _ (omega arith)

pub returns : goal.returns
returns c = looking-ends c.loop.invariant (omega (arith, c.loop-test.false))
