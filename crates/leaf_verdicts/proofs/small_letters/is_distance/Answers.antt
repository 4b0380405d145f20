-- `is_distance`: the node stands where its number says.
use Rattle.definitions.specs.Filter.Verdicts.{is_distance_call}
use Rattle.leaf_verdicts.proofs.LaidLaws.{index-node, index-tree, laid-stands}
use Rattle.leaf_verdicts.proofs.small_letters.is_distance.Goals as goal

pub start-requires : goal.start-requires
start-requires c = index-node c.requires

pub is_distance_expr-requires : goal.is_distance_expr-requires
is_distance_expr-requires c = index-tree c.requires c.start.ensures

pub returns : goal.returns
unfolding is_distance_call
returns c =
    λ at records t h. c.is_distance_expr.ensures _ t (laid-stands h c.start.ensures)
