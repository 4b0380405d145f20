-- What is still to be scanned and what was make the node's records.
use Prim.Native.Nat.{◌+◌, ◌-◌}
use mathlib.Core.Path.{◌≡◌}
use lib.ListN.{length, drop}
use Rattle.definitions.specs.Bytes.Good.{nodes}
use Rattle.node_table.specs.Records.{nodes_of}
use Rattle.filter_tree.specs.Trees.{OfNode, below}
use Rattle.filter_tree.proofs.tree.Tree.after.Given as goal

abbrev pub invariant-loop-k : goal.invariant-loop-k
invariant-loop-k l =
    OfNode l.self.nodes.now l.i (λ at t. l.k + length (below l.end (drop l.k (nodes_of l.self.nodes.now))) ≡ l.i + nodes t)

abbrev pub decreases-loop-k : goal.decreases-loop-k
decreases-loop-k l =
    length l.self.nodes.now - l.k
