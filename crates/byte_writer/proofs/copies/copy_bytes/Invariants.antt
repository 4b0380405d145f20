-- `copy_bytes`: i bytes are copied, and the rest is as it was.
use Rattle.std.proofs.Common.{◌++◌, ◌≡◌, length, take, drop}
use Rattle.byte_writer.proofs.copies.copy_bytes.Given as goal

abbrev pub invariant-loop-i : goal.invariant-loop-i
invariant-loop-i l =
    (length l.out ≡ length l.initial.out) × (l.out ≡ take l.i (drop l.from l.src) ++ drop l.i l.initial.out)
