-- `move_bytes`: a byte is read before anything is written over it, since it moves down.
use native.Mathlib.Omega.{arith}
use Rattle.queues.proofs.Moving.{none-moved, one-moved, all_moved}
use Rattle.queues.proofs.parts.move_bytes.Goals as goal

pub loop-i-init : goal.loop-i-init
loop-i-init c =
    none-moved c.args.s.now c.args.to c.args.from c.args.n c.requires.to_le_from c.requires.n_in_bounds

pub loop-i-preserved : goal.loop-i-preserved
loop-i-preserved c =
    let loop = c.loop-i in
    one-moved c.args.s.now c.args.to c.args.from c.args.n c.requires.to_le_from c.requires.n_in_bounds loop.s loop.i
    c.loop-i-test.true loop.invariant

pub returns : goal.returns
returns c =
    all_moved c.args.s.now c.args.to c.args.from c.args.n c.requires.to_le_from c.requires.n_in_bounds (omega arith)
    c.loop-i.invariant
