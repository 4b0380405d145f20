-- `put_places`: the places from i on are written, and what is left is the number without them.
use Prim.Native.Nat.{◌+◌}
use native.Mathlib.Omega.{arith}
use Rattle.byte_writer.proofs.NumberLaws.{none_written, one_written}
use Rattle.byte_writer.proofs.numbers.put_places.Goals as goal

pub loop-i-init : goal.loop-i-init
loop-i-init g c =
    none_written g.row.BASE (λ d. d + g.row.ZERO) c.args.value c.args.out.now c.args.w c.args.width

pub loop-i-preserved : goal.loop-i-preserved
loop-i-preserved g c =
    let loop = c.loop-i in
    one_written g.row.BASE (λ d. d + g.row.ZERO) c.args.value c.args.out.now c.args.w c.args.width c.requires.room loop.out loop.i loop.rest
    (omega (arith, c.loop-i-test.true)) loop.invariant
