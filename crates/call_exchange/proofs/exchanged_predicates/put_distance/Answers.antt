-- `put_distance`: after its side both geometries are written over the same two in the other order, and the bound stays.
use native.Mathlib.Omega.{arith}
use mathlib.Core.Path.{refl}
use lib.ListN.{length-set}
use Rattle.byte_writer.specs.Writing.{same}
use Rattle.byte_writer.proofs.Sequence.{first-room, second-room, both-put}
use Rattle.call_exchange.proofs.PredicateLaws.{distance-room, distance-turned}
use Rattle.call_exchange.proofs.exchanged_predicates.put_distance.Goals as goal

pub bounds-plan-4 : goal.bounds-plan-4
bounds-plan-4 c =
    let room = distance-room c.args.p refl c.requires in omega (arith, room.room)

pub copy_at-w-requires : goal.copy_at-w-requires
copy_at-w-requires c =
    first-room same (distance-room c.args.p (length-set c.args.plan.now 4 c.from.result) c.requires)

pub copy_at-requires : goal.copy_at-requires
copy_at-requires c =
    let one = c.copy_at-w in
    second-room (distance-room c.args.p (length-set c.args.plan.now 4 c.from.result) c.requires) one.ensures one.auto.out

pub returns : goal.returns
returns c =
    λ P h.
    let room = distance-room c.args.p (length-set c.args.plan.now 4 c.from.result) c.requires in
    distance-turned c.args.p P h c.from.ensures (both-put (omega (arith, room.room)) c.copy_at-w.ensures c.copy_at.ensures)
