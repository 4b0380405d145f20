-- `first_of`: a queue's count says whether it holds a frame.
use native.Mathlib.Omega.{arith}
use Rattle.queues.specs.Outcomes.{queue_is}
use Rattle.queues.proofs.Putting.{part-within}
use Rattle.queues.proofs.Serving.{first-due, second-due, none-due}
use Rattle.queues.proofs.serve.first_of.Goals as goal

pub bounds-queues-queue_start : goal.bounds-queues-queue_start
bounds-queues-queue_start c = omega (arith, part-within c.args.queues.now c.requires (queue_is c.args.first) _ c.queue_start.ensures)

pub returns-then-queues-queue_start-gt0 : goal.returns-then-queues-queue_start-gt0
returns-then-queues-queue_start-gt0 c =
    first-due c.args.queues.now c.args.first c.args.second _ c.queue_start.ensures c.if-queues-queue_start-gt0.true

pub bounds-queues-queue_start-2 : goal.bounds-queues-queue_start-2
bounds-queues-queue_start-2 c = omega (arith, part-within c.args.queues.now c.requires (queue_is c.args.second) _ c.queue_start-2.ensures)

pub returns-then-queues-queue_start-gt0-2 : goal.returns-then-queues-queue_start-gt0-2
returns-then-queues-queue_start-gt0-2 c =
    second-due c.args.queues.now c.args.first c.args.second _ c.queue_start.ensures c.if-queues-queue_start-gt0.false
    _ c.queue_start-2.ensures c.if-queues-queue_start-gt0-2.true

pub returns : goal.returns
returns c =
    none-due c.args.queues.now c.args.first c.args.second _ c.queue_start.ensures c.if-queues-queue_start-gt0.false
    _ c.queue_start-2.ensures c.if-queues-queue_start-gt0-2.false
