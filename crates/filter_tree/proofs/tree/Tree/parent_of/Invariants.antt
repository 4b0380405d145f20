-- `parent_of`: what was passed ends sooner than the leaf.
use Prim.Native.Nat.{◌≤◌}
use Rattle.filter_tree.proofs.Parents.{Sooner}
use Rattle.filter_tree.proofs.tree.Tree.parent_of.Given as goal

abbrev pub invariant-loop-k : goal.invariant-loop-k
invariant-loop-k l =
    (l.k ≤ l.leaf) × Sooner l.self.nodes.now l.leaf l.k

abbrev pub decreases-loop-k : goal.decreases-loop-k
decreases-loop-k l = l.k
