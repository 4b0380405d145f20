-- The loop has read the first digits, and the rest are left to read from the place reached.
use Rattle.node_reader.proofs.Numbers.{Digits}
use Rattle.node_reader.proofs.field_readers.number.Given as goal

abbrev pub invariant-loop-b : goal.invariant-loop-b
invariant-loop-b l =
    Digits l.s l.at l.width l.value l.b-index
