-- `walk_once`: what is picked and reached among the nodes that are left.
use Rattle.definitions.specs.Filter.Settings.{match_under}
use Rattle.terms.specs.Settings.{settings_of}
use Rattle.filter_tree.specs.Spines.{spine_left}
use Rattle.leaf_pick.proofs.Ahead.{Along}
use Rattle.leaf_pick.proofs.one_walk.walk_once.Given as goal

abbrev pub invariant-loop-index : goal.invariant-loop-index
invariant-loop-index l =
    Along (match_under (settings_of l.settings)) l.filter.tree.bytes.now l.filter.tree.nodes.now l.filter.rec (spine_left l.index-iterator)
    l.position l.walk
