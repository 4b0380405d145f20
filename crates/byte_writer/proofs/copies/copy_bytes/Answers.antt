-- `copy_bytes`: one byte more is copied.
use native.Mathlib.Omega.{arith}
use mathlib.Core.Path.{sym, ap, ◌∙◌}
use lib.ListN.{drop, set, length-set, length-drop}
use lib.Seq.{get_or-drop}
use Rattle.byte_writer.proofs.Written.{write-more}
use Rattle.byte_writer.proofs.copies.copy_bytes.Goals as goal

pub loop-i-preserved : goal.loop-i-preserved
loop-i-preserved c =
    let loop = c.loop-i in
    let args = c.args in (
      simp length-set loop.invariant.0,
      ap (set loop.out loop.i) (sym (get_or-drop args.from args.src.now loop.i 0))
          ∙ write-more (drop args.from args.src.now) args.out.now loop.out loop.i (simp length-drop (omega arith))
          (omega arith) loop.invariant.1,
    )
