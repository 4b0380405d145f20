-- `find_due`: the mark says which queue is tried first.
use mathlib.Core.Path.{sym, ◌∙◌}
use native.Mathlib.Omega.{arith}
use Rattle.theorems.proofs.QueueStates.{held_in}
use Rattle.queues.proofs.Serving.{fixed-turn, chassis-turn}
use Rattle.queues.proofs.serve.find_due.Goals as goal

pub bounds-queues-0 : goal.bounds-queues-0
bounds-queues-0 c = omega (arith, (held_in c.args.queues.now c.requires.0 c.requires.1).long)

pub returns-then-queues-mark_byte : goal.returns-then-queues-mark_byte
returns-then-queues-mark_byte c =
    fixed-turn c.args.queues.now c.first_of.result (c.if-queues-mark_byte.true ∙ c.mark_byte.ensures) c.first_of.ensures

pub returns-else-queues-mark_byte : goal.returns-else-queues-mark_byte
returns-else-queues-mark_byte c =
    chassis-turn c.args.queues.now c.first_of-else-queues-mark_byte.result
    (λ e. c.if-queues-mark_byte.false (e ∙ sym c.mark_byte.ensures)) c.first_of-else-queues-mark_byte.ensures
