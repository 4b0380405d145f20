-- `good_queues`: length, mark and first queue each decide if bad; then the second queue does.
use mathlib.Core.Path.{refl}
use mathlib.Core.Bool.{true, false}
use Rattle.queues.proofs.Reading.{length-other, mark-bad, first-bad, second-decides}
use Rattle.queues.proofs.held.good_queues.Goals as goal
use Rattle.queues.proofs.held.good_queues.Goals.{then-queues-ne-WHOLE-via-then-queues-ne-WHOLE, then-queues-ne-WHOLE-via-else-queues-ne-WHOLE+then-queues-gt2, else-good_queue-via-then-good_queue+else-good_queue-2, else-good_queue-via-else-good_queue}

pub returns-then-queues-ne-WHOLE : goal.returns-then-queues-ne-WHOLE
returns-then-queues-ne-WHOLE c = (
  refl,
  elim c.then-queues-ne-WHOLE.branch [
    | then-queues-ne-WHOLE-via-then-queues-ne-WHOLE w ↦ length-other _ w.if-queues-ne-WHOLE.true
    | then-queues-ne-WHOLE-via-else-queues-ne-WHOLE+then-queues-gt2 w ↦ mark-bad _ w.if-queues-ne-WHOLE.false w.if-queues-gt2.true
  ],
)

pub returns-then-good_queue-2 : goal.returns-then-good_queue-2
returns-then-good_queue-2 c =
    second-decides _ c.if-queues-ne-WHOLE.false c.if-queues-gt2.false true (c.if-good_queue.ensures) (c.if-good_queue-2.ensures)

pub returns-else-good_queue : goal.returns-else-good_queue
returns-else-good_queue c = (
  refl,
  elim c.else-good_queue.branch [
    | else-good_queue-via-then-good_queue+else-good_queue-2 w ↦
        second-decides _ c.if-queues-ne-WHOLE.false c.if-queues-gt2.false false (w.if-good_queue.ensures) (w.if-good_queue-2.ensures)
    | else-good_queue-via-else-good_queue w ↦ first-bad _ c.if-queues-ne-WHOLE.false c.if-queues-gt2.false (w.if-good_queue.ensures)
  ],
)
