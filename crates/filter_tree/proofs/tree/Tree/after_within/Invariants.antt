-- `after_within`: the index that is looked for is in the range that is left.
use Prim.Native.Nat.{◌+◌, ◌-◌, ◌≤◌, ◌<◌}
use Rattle.definitions.specs.Bytes.Good.{nodes}
use Rattle.filter_tree.specs.Trees.{OfNode}
use Rattle.filter_tree.proofs.tree.Tree.after_within.Given as goal

abbrev pub invariant-loop-low : goal.invariant-loop-low
invariant-loop-low l = record {
  after : l.i < l.low;
  within : l.high ≤ l.past;
  found : OfNode l.self.nodes.now l.i (λ at t. (l.low ≤ l.i + nodes t) × (l.i + nodes t ≤ l.high));
}

abbrev pub decreases-loop-low : goal.decreases-loop-low
decreases-loop-low l =
    l.high - l.low
