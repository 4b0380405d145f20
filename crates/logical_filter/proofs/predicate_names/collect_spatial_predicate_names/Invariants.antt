-- `collect_spatial_predicate_names`: the leaves among the nodes that are left come after those that were seen.
use Rattle.filter_tree.specs.Spines.{spine_left}
use Rattle.filter_tree.specs.Trees.{OfTreeNode}
use Rattle.logical_filter.proofs.LeafLoop.{Collecting}
use Rattle.logical_filter.proofs.predicate_names.collect_spatial_predicate_names.Given as goal

abbrev pub invariant-loop-index : goal.invariant-loop-index
invariant-loop-index l =
    OfTreeNode l.tree.bytes.now l.tree.nodes.now 0
    (Collecting l.tree.bytes.now l.tree.nodes.now (spine_left l.index-iterator) l.all)
