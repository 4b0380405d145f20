-- The number of its type, then left and right.
use native.Mathlib.Omega.{arith}
use mathlib.Core.Path.{refl}
use Rattle.byte_writer.proofs.Sequence.{head-room, stored-room, stored-put}
use Rattle.plan_writer.proofs.PredicateLaws.{relation-view}
use Rattle.plan_writer.proofs.put_predicate.put_relation.Goals as goal

pub bounds-out-0 : goal.bounds-out-0
bounds-out-0 c =
    let a = c.args in
    omega (arith, head-room (relation-view a.indexes a.src.now a.p refl) c.requires)

pub put_both-requires : goal.put_both-requires
put_both-requires c =
    let a = c.args in
    stored-room (relation-view a.indexes a.src.now a.p c.from.ensures) c.requires

pub returns : goal.returns
returns c =
    let a = c.args in
    stored-put (relation-view a.indexes a.src.now a.p c.from.ensures) c.requires c.put_both.ensures
