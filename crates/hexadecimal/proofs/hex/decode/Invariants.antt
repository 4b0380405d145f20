-- `decode`: i bytes are decoded and the later digits decide; a bad pair decides at once, and at the end nothing is left.
use Rattle.hexadecimal.proofs.DecodeLaws.{DecodedSoFar}
use Rattle.hexadecimal.proofs.hex.decode.Given as goal

abbrev pub invariant-loop-i : goal.invariant-loop-i
invariant-loop-i l =
    DecodedSoFar l.line l.initial.out l.out l.i
