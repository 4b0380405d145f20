-- `encode`: the digits of the bytes so far are written.
use Rattle.hexadecimal.proofs.EncodeLaws.{Encoded}
use Rattle.hexadecimal.proofs.hex.encode.Given as goal

abbrev pub invariant-loop-byte : goal.invariant-loop-byte
invariant-loop-byte l =
    Encoded l.bytes l.at l.byte-index l.initial.out l.out l.next
