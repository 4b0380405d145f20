-- `move_frame`: a length and a frame written one place further down.
use Prim.Native.Nat.{◌+◌, ◌*◌}
use native.Mathlib.Omega.{arith}
use mathlib.Core.Path.{◌≡◌}
use Rattle.queues.proofs.QueueLaws.{frame-moved}
use Rattle.queues.proofs.parts.move_frame.Goals as goal

pub returns : goal.returns
returns c =
    let number = c.short_at-n in
    let put = c.put_number-to in
    let from : 33 + 1024 * c.args.k + 1024 ≡ 1057 + 1024 * c.args.k = omega arith in
    frame-moved c.args.part.now c.args.k number.result c.requires number.ensures put.new.out put.result put.ensures
    (rw from at c.move_bytes.ensures)
