-- `end_children`: a turn passes one node; its children are then the first of those that are left, which end where all do.
use native.Mathlib.Omega.{arith}
use Rattle.expression.proofs.Standing.{node-some}
use Rattle.expression.proofs.EndWalk.{all-end, ending-ends, ending-tree, ending-later, ending-passed, ending-few}
use Rattle.expression.proofs.ends.end_children.Goals as goal

pub head_at-head-requires : goal.head_at-head-requires
head_at-head-requires c =
    ending-tree (c.loop-left.invariant c.requires) (omega (arith, c.loop-left-test.true))

pub overflow_add-left : goal.overflow_add-left
overflow_add-left c =
    let head = c.head_at-head in
    omega (
      arith,
      c.well_formed,
      ending-few (c.loop-left.invariant c.requires) (omega (arith, c.loop-left-test.true)) head.result head.ensures,
    )

pub loop-left-smaller : goal.loop-left-smaller
loop-left-smaller c =
    let inv = c.loop-left.invariant c.requires in
    let some = c.loop-left-test.true in
    let head = c.head_at-head in
    let there = ending-tree inv some in
    omega (arith, node-some there.2, ending-later inv some head.result head.ensures)

pub loop-left-preserved : goal.loop-left-preserved
loop-left-preserved c =
    λ p. ending-passed (c.loop-left.invariant p) c.loop-left-test.true c.head_at-head.result c.head_at-head.ensures

pub returns : goal.returns
returns c =
    all-end c.requires (ending-ends (c.loop-left.invariant c.requires) (omega (arith, c.loop-left-test.false)))
