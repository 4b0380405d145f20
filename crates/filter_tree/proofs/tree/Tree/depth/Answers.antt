-- As the walk found.
use Rattle.filter_tree.proofs.tree.Tree.depth.Goals as goal

pub returns : goal.returns
returns c =
    λ at t h. (c.levels_of.ensures at t h).0
