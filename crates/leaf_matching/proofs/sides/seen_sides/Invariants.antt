-- `seen_sides`: the side of each column that is left is still to be seen.
use Rattle.filter_tree.specs.Columns.{columns_left}
use Rattle.leaf_matching.specs.Frames.{OfArgument}
use Rattle.leaf_matching.proofs.SideWalk.{SeesLeft}
use Rattle.leaf_matching.proofs.sides.seen_sides.Given as goal

abbrev pub invariant-loop-place : goal.invariant-loop-place
invariant-loop-place l =
    OfArgument l.filter.tree.bytes.now l.filter.rec l.filter.tree.nodes.now l.i
    (SeesLeft l.filter.tree.bytes.now l.filter.rec (columns_left l.place-iterator) l.seen)
