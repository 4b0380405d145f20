-- `extract_spatial_predicate`: the pick is the first KNN match; without one it is the first match that is not KNN.
use Rattle.definitions.specs.Filter.Extract.{matches_by}
use Rattle.leaf_pick.proofs.PickLaws.{pick-knn}
use Rattle.leaf_pick.proofs.FirstLaws.{taken_is, second-pass}
use Rattle.leaf_pick.proofs.pick.extract_spatial_predicate.Goals as goal

pub returns-in-Break : goal.returns-in-Break
unfolding matches_by
returns-in-Break c =
    λ records t over.
    let first = c.in-Break.ensures records t over in
    taken_is first (pick-knn _ _ first.first)

pub returns : goal.returns
returns c =
    λ records t over. rw c.break_value.ensures.value
    (second-pass _ c.args.filter.tree.bytes.now _ records t _ (c.in_default.ensures records t over).first
    (c.from_root.ensures records t over))
