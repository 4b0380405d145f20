-- Form and side, then left, right and the distance.
use native.Mathlib.Omega.{arith}
use mathlib.Core.Path.{refl}
use lib.ListN.{length-set}
use Rattle.byte_writer.proofs.Sequence.{head-room, stored-room, stored-put, first-room, second-room, both-put}
use Rattle.plan_writer.specs.Arguments.{written}
use Rattle.plan_writer.proofs.PredicateLaws.{bound, distance-view}
use Rattle.plan_writer.proofs.put_predicate.put_distance.Goals as goal

pub bounds-out-0 : goal.bounds-out-0
bounds-out-0 c =
    let a = c.args in
    omega (arith, head-room (distance-view a.indexes a.src.now a.p refl) c.requires)

pub bounds-out-1 : goal.bounds-out-1
bounds-out-1 c =
    let a = c.args in
    simp length-set (head-room (distance-view a.indexes a.src.now a.p refl) c.requires)

pub put_both-w-requires : goal.put_both-w-requires
put_both-w-requires c =
    let a = c.args in
    first-room (written a.indexes (bound a.indexes a.src.now a.p))
    (stored-room (distance-view a.indexes a.src.now a.p c.from.ensures) c.requires)

pub reproject_column_references_for_side-requires : goal.reproject_column_references_for_side-requires
reproject_column_references_for_side-requires c =
    let both = c.put_both-w in
    let a = c.args in
    second-room (stored-room (distance-view a.indexes a.src.now a.p c.from.ensures) c.requires) both.ensures both.auto.out

pub returns : goal.returns
returns c =
    let a = c.args in
    let view = distance-view a.indexes a.src.now a.p c.from.ensures in
    stored-put view c.requires
    (both-put (simp length-set (head-room view c.requires))
    c.put_both-w.ensures
    c.reproject_column_references_for_side.ensures)
