-- `next`: what is passed is no column.
use Prim.Native.Nat.{◌-◌}
use mathlib.Core.Path.{◌≡◌}
use lib.ListN.{length}
use Rattle.filter_tree.specs.Columns.{columns_left}
use Rattle.filter_tree.proofs.tree.ColumnsIterator.next.Given as goal

abbrev pub invariant-loop-self : goal.invariant-loop-self
invariant-loop-self l =
    columns_left l.self ≡ columns_left l.initial.self

abbrev pub decreases-loop-self : goal.decreases-loop-self
decreases-loop-self l =
    length l.self.nodes.now - l.self.next
