-- `put_relation`: after its type both geometries are written over the same two in the other order.
use native.Mathlib.Omega.{arith}
use mathlib.Core.Path.{refl}
use lib.ListN.{length-set}
use Rattle.byte_writer.specs.Writing.{same}
use Rattle.byte_writer.proofs.Sequence.{first-room, second-room, both-put}
use Rattle.call_exchange.proofs.PredicateLaws.{relation-room, relation-turned}
use Rattle.call_exchange.proofs.exchanged_predicates.put_relation.Goals as goal

pub bounds-plan-3 : goal.bounds-plan-3
bounds-plan-3 c =
    let room = relation-room c.args.p refl c.requires in omega (arith, room.room)

pub copy_at-w-requires : goal.copy_at-w-requires
copy_at-w-requires c =
    first-room same (relation-room c.args.p (length-set c.args.plan.now 3 c.from.result) c.requires)

pub copy_at-requires : goal.copy_at-requires
copy_at-requires c =
    let one = c.copy_at-w in
    second-room (relation-room c.args.p (length-set c.args.plan.now 3 c.from.result) c.requires) one.ensures one.auto.out

pub returns : goal.returns
returns c =
    λ P h.
    let room = relation-room c.args.p (length-set c.args.plan.now 3 c.from.result) c.requires in
    relation-turned c.args.p P h c.from.ensures (both-put (omega (arith, room.room)) c.copy_at-w.ensures c.copy_at.ensures)
