-- `after`: each record that is passed is the next of those below the node's end.
use native.Mathlib.Omega.{arith}
use mathlib.Core.Path.{ap}
use lib.ListN.{length, get_or}
use Rattle.node_table.proofs.RecordLaws.{blank}
use Rattle.filter_tree.proofs.Scans.{noded-within, scan-begins, scan-counts, scan-stops, scan-out}
use Rattle.filter_tree.proofs.tree.Tree.after.Goals as goal

pub offset_bounds-self-i : goal.offset_bounds-self-i
offset_bounds-self-i c =
    omega (arith, noded-within c.requires.2, c.well_formed)

pub bounds-self-i : goal.bounds-self-i
bounds-self-i c =
    noded-within c.requires.2

pub overflow_add-k : goal.overflow_add-k
overflow_add-k c =
    omega (arith, noded-within c.requires.2, c.well_formed)

pub loop-k-init : goal.loop-k-init
loop-k-init c at t h =
    scan-begins h

pub loop-k-preserved : goal.loop-k-preserved
loop-k-preserved c at t h =
    omega (arith, c.loop-k.invariant at t h, scan-counts c.args.self.nodes.now _ c.loop-k.k c.loop-k-test.true c.if-self-k.true)

pub returns-else-self-k : goal.returns-else-self-k
returns-else-self-k c at t h =
    omega (arith, c.loop-k.invariant at t h, ap length (scan-stops c.args.self.nodes.now _ c.loop-k.k c.loop-k-test.true c.if-self-k.false))

pub returns-after-loop-k : goal.returns-after-loop-k
returns-after-loop-k c at t h =
    omega (
      arith,
      c.loop-k.invariant at t h,
      ap length (scan-out c.args.self.nodes.now (get_or c.args.self.nodes.now c.args.i blank).end
          c.loop-k.k c.loop-k-test.false),
    )
