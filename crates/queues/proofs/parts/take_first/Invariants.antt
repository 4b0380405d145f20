-- `take_first`: the invariant is that k frames are moved down and the rest is as it was.
use Rattle.queues.proofs.Shifting.{Shifting}
use Rattle.queues.proofs.parts.take_first.Given as goal

abbrev pub invariant-loop-k : goal.invariant-loop-k
invariant-loop-k l = Shifting l.initial.part l.last l.part l.k
