-- `move_bytes`: i bytes are moved.
use Rattle.queues.proofs.Moving.{Moved}
use Rattle.queues.proofs.parts.move_bytes.Given as goal

abbrev pub invariant-loop-i : goal.invariant-loop-i
invariant-loop-i l = Moved l.initial.s l.to l.from l.n l.s l.i
