-- `add_frame`: a length and a frame written behind the others, and the count one more.
use Prim.Native.Nat.{◌+◌, ◌*◌}
use Rattle.std.proofs.Common.{rules}
use native.Mathlib.Omega.{arith}
use mathlib.Core.Path.{refl}
use Rattle.queues.proofs.Moving.{copied-over}
use Rattle.theorems.proofs.Tools.{all-bytes}
use Rattle.queues.proofs.QueueLaws.{frame-added}
use Rattle.queues.proofs.parts.add_frame.Goals as goal

pub returns : goal.returns
returns c =
    frame-added c.args.part.now c.args.count c.args.frame.now c.requires (search (rules, all-bytes))
    (record {
      between = c.put_number-place.new.out;
      ended = c.put_number-place.result;
      number = c.put_number-place.ensures;
      bytes = copied-over c.put_number-place.new.out c.args.frame.now (33 + 1024 * c.args.count) _ (omega arith)
          c.copy_over.ensures refl;
    })
