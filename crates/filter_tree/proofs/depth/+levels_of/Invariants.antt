-- `levels_of`: the children that are left, and the deepest of those before them. A call goes to a later index.
use Prim.Native.Nat.{◌-◌, ◌<◌}
use lib.ListN.{length}
use Rattle.filter_tree.specs.Trees.{OfNode}
use Rattle.filter_tree.proofs.Depths.{Deepening}
use Rattle.filter_tree.proofs.depth.+levels_of.Given as goal

abbrev pub invariant-loop-k : goal.invariant-loop-k
invariant-loop-k l = (l.i < l.k) × OfNode l.nodes l.i (Deepening l.nodes l.i l.k l.below)

abbrev pub decreases-loop-k : goal.decreases-loop-k
decreases-loop-k l = length l.nodes - l.k

abbrev pub decreases-levels_of : goal.decreases-levels_of
decreases-levels_of l = length l.nodes.now - l.i
