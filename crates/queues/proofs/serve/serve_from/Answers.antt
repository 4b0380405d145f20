-- `serve_from`: the oldest frame is copied out, the later ones move down, and the queue is marked.
use Prim.Native.Nat.{◌+◌, ◌-◌, ◌≤◌}
use Rattle.std.proofs.Common.{rules}
use native.Mathlib.Omega.{arith}
use mathlib.Core.Path.{◌≡◌, ap}
use mathlib.Core.List.{◌++◌}
use lib.ListN.{length, drop}
use Rattle.queues.specs.Outcomes.{queue_is}
use Rattle.theorems.proofs.Tools.{all-bytes}
use Rattle.queues.proofs.Putting.{part-within}
use Rattle.queues.proofs.Serving.{part-first, frame-within, out-short, frame-served}
use Rattle.queues.proofs.serve.serve_from.Goals as goal
use Rattle.queues.proofs.serve.serve_from.Goals.{After-queue_start-at}

-- The bytes of the queue are in the buffer.
within : (c : After-queue_start-at) → c.queue_start-at.result + 16417 ≤ length c.args.queues.now
within c = part-within c.args.queues.now (c.requires.state, c.requires.held) (queue_is c.args.queue) _ c.queue_start-at.ensures

pub slice_bounds-part-end : goal.slice_bounds-part-end
slice_bounds-part-end c = within (goal.at.slice_bounds-part-end c).After-queue_start-at

pub returns-then-out-n : goal.returns-then-out-n
returns-then-out-n c =
    λ S f later is first.
    out-short c.args.queues.now (queue_is c.args.queue) _ _ c.queue_start-at.ensures (omega arith) c.requires
    _ c.short_at-n.ensures c.args.out.now S f later is first c.if-out-n.true

pub slice_bounds-copy_over-end-3 : goal.slice_bounds-copy_over-end-3
slice_bounds-copy_over-end-3 c =
    frame-within c.args.queues.now (queue_is c.args.queue) _ _ c.queue_start-at.ensures (omega arith) c.requires _ c.short_at-n.ensures

pub take_first-requires : goal.take_first-requires
take_first-requires c =
    part-first c.args.queues.now (queue_is c.args.queue) _ _ c.queue_start-at.ensures (omega arith)
    c.requires.state c.requires.frame c.requires.later c.requires.held c.requires.first

pub returns : goal.returns
returns c =
    λ S f later is first.
    let count : 33 + c.short_at-n.result - 33 ≡ c.short_at-n.result = omega arith in
    frame-served c.args.queues.now (queue_is c.args.queue) _ _ c.queue_start-at.ensures (omega arith) c.requires
    _ c.short_at-n.ensures c.args.out.now S f later is first c.if-out-n.false
    (search (rules, all-bytes)) (c.copy_over.new.out ++ drop c.short_at-n.result c.args.out.now) c.take_first.new.part
    _ c.mark_byte.ensures (rw count at (ap (λ l. l ++ drop c.short_at-n.result c.args.out.now) c.copy_over.ensures))
    c.take_first.ensures
