-- `good_queue`: what is left to read decides, until a length is out of range or none is left.
use Prim.Native.Nat.{ℕ, ◌<◌, ◌+◌, ◌*◌, ◌/◌}
use native.Mathlib.Omega.{arith}
use mathlib.Core.Path.{◌≡◌, ap, ◌∙◌}
use mathlib.Core.List.{List, []}
use lib.ListN.{length, get_or, take}
use lib.Seq.{length-take-le}
use Rattle.definitions.specs.Calls.QueueBytes.{lengths_of}
use Rattle.theorems.proofs.QueueStates.{lengths-long}
use Rattle.expression.specs.Places.{short_at}
use Rattle.queues.proofs.Reading.{count-bad, none_read, length-bad, one-read, all_read, length-cut}
use Rattle.queues.proofs.held.good_queue.Goals as goal
use Rattle.queues.proofs.held.good_queue.Goals.{After-short_at-n}

-- As many lengths are looked at as there are frames, and the two bytes of a turn are the length of that place.
turns : (c : After-short_at-n) → c.loop-length.length-index < get_or c.args.part.now 0 0
turns c = omega (arith, length-take-le c.from-count.result c.as_chunks.result.0.now (omega arith))

turn : (c : After-short_at-n) → c.short_at-n.result ≡ short_at c.args.part.now (1 + 2 * c.loop-length.length-index)
turn c =
    let part = c.args.part.now in
    let i = c.loop-length.length-index in
    let long : length (lengths_of part) ≡ 32 = lengths-long part c.requires in
    c.short_at-n.ensures
    ∙ ap (λ (l : List (List ℕ)). short_at (get_or (take c.from-count.result l) i []) 0) c.as_chunks.ensures.front
    ∙ length-cut part (length (lengths_of part) / 2) c.from-count.result i (omega (arith, turns c)) (omega arith) (omega arith)

pub returns-then-count-gt-MOST : goal.returns-then-count-gt-MOST
returns-then-count-gt-MOST c = count-bad c.args.part.now (omega arith)

pub loop-length-init : goal.loop-length-init
loop-length-init c = none_read c.args.part.now (omega arith)

pub returns-then-n-lt1 : goal.returns-then-n-lt1
returns-then-n-lt1 c =
    let f = (goal.at.returns-then-n-lt1 c).After-short_at-n in
    length-bad c.args.part.now (omega arith) c.loop-length.length-index (turns f) c.loop-length.invariant _ (turn f) c.then-n-lt1.either

pub loop-length-preserved : goal.loop-length-preserved
loop-length-preserved c =
    let f = (goal.at.loop-length-preserved c).After-short_at-n in
    one-read c.args.part.now (omega arith) c.loop-length.length-index (turns f) c.loop-length.invariant _ (turn f)
    c.if-n-lt1.false c.if-n-gt-LONGEST.false

pub returns : goal.returns
returns c =
    all_read c.args.part.now (omega arith) c.loop-length.length-index
    (omega (arith, length-take-le c.from-count.result c.as_chunks.result.0.now (omega arith))) c.loop-length.invariant
