-- `levels_of`: each child's walk says how deep it is and where the next one is.
use native.Mathlib.Omega.{arith}
use mathlib.Core.Path.{◌∙◌}
use Rattle.filter_tree.proofs.Scans.{noded-within, noded-end}
use Rattle.filter_tree.proofs.Depths.{deepening-begins, levels-within, next-child, deepening-goes, deepening-ends, max-is}
use Rattle.filter_tree.proofs.depth.+levels_of.Goals as goal
use Rattle.filter_tree.proofs.depth.+levels_of.Goals.{then-loop-k-test+else-nodes-k, else-loop-k-test}

pub offset_bounds-nodes-i : goal.offset_bounds-nodes-i
offset_bounds-nodes-i t c =
    omega (arith, noded-within c.requires.2, c.well_formed)

pub bounds-nodes-i : goal.bounds-nodes-i
bounds-nodes-i t c =
    noded-within c.requires.2

pub overflow_add-k : goal.overflow_add-k
overflow_add-k t c =
    omega (arith, noded-within c.requires.2, c.well_formed)

pub loop-k-init : goal.loop-k-init
loop-k-init t c =
    (omega arith, λ at u h. deepening-begins h)

pub levels_of-child-requires : goal.levels_of-child-requires
levels_of-child-requires t c =
    let r = c.requires in (
      omega (arith, c.decreases, c.loop-k.invariant.0, c.loop-k-test.true),
      next-child (c.loop-k.invariant.1 r.0 r.1 r.2) c.loop-k-test.true (omega (arith, c.if-nodes-k.true, noded-end r.2)),
    )

pub loop-k-smaller : goal.loop-k-smaller
loop-k-smaller t c =
    let r = c.requires in
    let more = deepening-goes (c.loop-k.invariant.1 r.0 r.1 r.2) c.loop-k-test.true (omega (arith, c.if-nodes-k.true, noded-end r.2))
    c.levels_of-child.ensures in
    omega (arith, more.1, c.loop-k-test.true)

pub loop-k-preserved : goal.loop-k-preserved
loop-k-preserved t c =
    let r = c.requires in
    let more = deepening-goes (c.loop-k.invariant.1 r.0 r.1 r.2) c.loop-k-test.true (omega (arith, c.if-nodes-k.true, noded-end r.2))
    c.levels_of-child.ensures in (
      omega (arith, more.1, c.loop-k.invariant.0),
      λ at u h. rw (c.max-below.ensures ∙ max-is c.loop-k.below c.levels_of-child.result.depth)
          (deepening-goes (c.loop-k.invariant.1 at u h) c.loop-k-test.true (omega (arith, c.if-nodes-k.true, noded-end h))
          c.levels_of-child.ensures).0,
    )

pub overflow_add-result : goal.overflow_add-result
overflow_add-result t c =
    let r = c.requires in
    omega (arith, levels-within (c.loop-k.invariant.1 r.0 r.1 r.2), c.well_formed)

pub returns : goal.returns
returns t c =
    λ at u h.
    deepening-ends (c.loop-k.invariant.1 at u h)
    (λ there. elim c.loop-k-test.branch [
      | then-loop-k-test+else-nodes-k w ↦ omega (arith, w.if-nodes-k.false, noded-end h)
      | else-loop-k-test w ↦ absurd (omega (arith, there, w.loop-k-test.false))
    ])
