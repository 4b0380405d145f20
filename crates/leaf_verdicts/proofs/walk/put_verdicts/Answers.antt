-- `put_verdicts`: an And is passed, a leaf's verdict is written.
use native.Mathlib.Omega.{arith}
use Prim.Native.Nat.{◌<◌}
use lib.ListN.{length}
use Rattle.leaf_verdicts.proofs.walk.WalkLaws.{going-begins, going-at, going-room, going-into, going-past, going-ends}
use Rattle.leaf_verdicts.proofs.walk.put_verdicts.Goals as goal
use Rattle.leaf_verdicts.proofs.walk.put_verdicts.Goals.{In-Some-leaf_verdict}

-- There is room for a leaf's verdict.
room : (c : In-Some-leaf_verdict) → c.loop-index.count < length c.loop-index.out
room c =
    let r = c.requires in
    going-room (c.loop-index.invariant r.0 r.1 r.2 r.3) c.in-Some.ensures.steps _ c.in-Some-leaf_verdict.ensures r.4

pub loop-index-init : goal.loop-index-init
loop-index-init c = rw c.into_iter-index-iterator.ensures.into_iter_gives (going-begins c.of-index-items.ensures)

pub leaf_verdict-requires : goal.leaf_verdict-requires
leaf_verdict-requires c =
    let r = c.requires in going-at (c.loop-index.invariant r.0 r.1 r.2 r.3) c.in-Some.ensures.steps

pub bounds-out-count : goal.bounds-out-count
bounds-out-count c = room (goal.at.bounds-out-count c).In-Some-leaf_verdict

pub overflow_add-count : goal.overflow_add-count
overflow_add-count c = omega (arith, c.well_formed, room (goal.at.overflow_add-count c).In-Some-leaf_verdict)

pub loop-index-preserved-in-Some-leaf_verdict : goal.loop-index-preserved-in-Some-leaf_verdict
loop-index-preserved-in-Some-leaf_verdict c = λ at records t h.
    going-past (c.loop-index.invariant at records t h) c.in-Some.ensures.steps _ c.in-Some-leaf_verdict.ensures
    (room (goal.at.loop-index-preserved-in-Some-leaf_verdict c).In-Some-leaf_verdict) _ c.from.ensures

pub loop-index-preserved : goal.loop-index-preserved
loop-index-preserved c = λ at records t h.
    going-into (c.loop-index.invariant at records t h) c.in-Some.ensures.steps c.in_default.ensures

pub returns : goal.returns
returns c = λ at records t h. going-ends (c.loop-index.invariant at records t h) c.in-None.ensures.steps.0
