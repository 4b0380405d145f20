-- `put`: each check refuses with its number; then the frame is added to the bytes of its queue.
use Prim.Native.Nat.{◌+◌, ◌-◌, ◌≤◌}
use native.Mathlib.Omega.{arith}
use Rattle.std.proofs.Common.{rules}
use lib.ListN.{length}
use Rattle.std.proofs.lemmas.Result.{err_from_is_err_and}
use Rattle.queues.specs.Outcomes.{queue_is}
use Rattle.theorems.proofs.Tools.{all-bytes}
use Rattle.queues.proofs.Putting.{part-within, put-nowhere, put-unheld, put-empty, put-long, put_full, has_room, put-adds}
use Rattle.queues.proofs.put.put.Goals as goal
use Rattle.queues.proofs.put.put.Goals.{After-queue_start-at}

-- The bytes of the queue are in the buffer.
within : (c : After-queue_start-at) → c.queue_start-at.result + 16417 ≤ length c.args.queues.now
within c = part-within c.args.queues.now c.in_ok-good_queues.ensures (queue_is c.in_ok-queue.queue) _ c.queue_start-at.ensures

pub returns-in_err-queue : goal.returns-in_err-queue
returns-in_err-queue c =
    let p = err_from_is_err_and c.from_residual.result c.from_residual.ensures.1 in
    rw (p.1, p.2, c.in_err-queue.ensures.1) (put-nowhere _ _ _ c.in_err-queue.ensures.0)

pub returns-in_err-good_queues : goal.returns-in_err-good_queues
returns-in_err-good_queues c =
    let p = err_from_is_err_and c.from_residual-in_err-good_queues.result c.from_residual-in_err-good_queues.ensures.1 in
    rw (p.1, p.2, c.in_err-good_queues.ensures.0, c.in_ok-queue.ensures)
    (put-unheld _ (queue_is c.in_ok-queue.queue) _ c.in_err-good_queues.ensures.1)

pub returns-then-n-lt1 : goal.returns-then-n-lt1
returns-then-n-lt1 c =
    rw c.in_ok-queue.ensures
    (put-empty _ (queue_is c.in_ok-queue.queue) _ c.in_ok-good_queues.ensures c.if-n-lt1.true)

pub returns-then-n-gt-LONGEST : goal.returns-then-n-gt-LONGEST
returns-then-n-gt-LONGEST c =
    rw c.in_ok-queue.ensures
    (put-long _ (queue_is c.in_ok-queue.queue) _ c.in_ok-good_queues.ensures c.if-n-lt1.false c.if-n-gt-LONGEST.true)

pub bounds-queues-at : goal.bounds-queues-at
bounds-queues-at c = omega (arith, within (goal.at.bounds-queues-at c).After-queue_start-at)

pub returns-then-count-ge-MOST : goal.returns-then-count-ge-MOST
returns-then-count-ge-MOST c =
    rw c.in_ok-queue.ensures
    (put_full _ (queue_is c.in_ok-queue.queue) _ c.in_ok-good_queues.ensures c.if-n-lt1.false c.if-n-gt-LONGEST.false _
    c.queue_start-at.ensures (omega arith))

pub slice_bounds-add_frame-end : goal.slice_bounds-add_frame-end
slice_bounds-add_frame-end c = within (goal.at.slice_bounds-add_frame-end c).After-queue_start-at

pub add_frame-requires : goal.add_frame-requires
add_frame-requires c =
    rw c.from-count.ensures
    (has_room _ (queue_is c.in_ok-queue.queue) _ c.in_ok-good_queues.ensures c.if-n-lt1.false c.if-n-gt-LONGEST.false _
    c.queue_start-at.ensures (omega arith) (c.queue_start-at.result + 16417 - c.queue_start-at.result) (omega arith))

pub returns : goal.returns
returns c =
    rw c.in_ok-queue.ensures
    (put-adds _ (queue_is c.in_ok-queue.queue) _ c.in_ok-good_queues.ensures c.if-n-lt1.false c.if-n-gt-LONGEST.false _
    c.queue_start-at.ensures (omega arith) (c.queue_start-at.result + 16417 - c.queue_start-at.result) (omega arith)
    (search (rules, all-bytes)) c.add_frame.new.part (rw c.from-count.ensures at c.add_frame.ensures))
