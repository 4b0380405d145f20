-- `put_places`: the places from i on are written, and what is left is the number without them.
use Prim.Native.Nat.{◌+◌}
use Rattle.byte_writer.proofs.NumberLaws.{Written}
use Rattle.byte_writer.proofs.numbers.put_places.Given as goal

abbrev pub invariant-loop-i : goal.invariant-loop-i
invariant-loop-i g l =
    Written g.row.BASE (λ d. d + g.row.ZERO) l.value l.initial.out l.w l.width l.out l.i l.rest
