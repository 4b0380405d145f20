-- `good_queue`: what is left to read decides, until a length is out of range or none is left.
use Rattle.queues.proofs.Reading.{Read}
use Rattle.queues.proofs.held.good_queue.Given as goal

abbrev pub invariant-loop-length : goal.invariant-loop-length
invariant-loop-length l = Read l.part l.length-index
