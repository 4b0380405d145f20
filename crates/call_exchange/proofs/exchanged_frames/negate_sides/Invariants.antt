-- `negate_sides`: a turn negates the side of the next record.
use Prim.Native.Nat.{◌+◌, ◌*◌, ◌≤◌}
use lib.ListN.{length}
use Rattle.call_exchange.proofs.RecordLaws.{Begun}
use Rattle.call_exchange.proofs.exchanged_frames.negate_sides.Given as goal

abbrev pub invariant-loop-i : goal.invariant-loop-i
invariant-loop-i l =
    (l.records + 5 * l.count ≤ length l.plan) × Begun l.records l.count l.initial.plan l.plan l.i
