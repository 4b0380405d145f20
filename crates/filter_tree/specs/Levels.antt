-- What a walk over a node's records finds of its levels.
use Rattle.std.specs.Prelude.{ℕ, ◌+◌, ◌≡◌, List}
use Rattle.definitions.specs.Bytes.Good.{nodes, depth}
use Rattle.node_table.specs.declared.NodeRecord.{NodeRecord as Lent}
use Rattle.filter_tree.specs.Trees.{OfNode}

-- How many levels the node of this index has, and the index of the node after it and all below it.
abbrev pub LevelsAre : List Lent → (i levels after : ℕ) → Type 0
LevelsAre row i levels after = OfNode row i (λ at t. (levels ≡ depth t) × (after ≡ i + nodes t))
