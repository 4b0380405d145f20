-- `side_of_column_references`: what was seen of the columns is the side of them all.
use Rattle.leaf_matching.proofs.SideWalk.{side-seen}
use Rattle.leaf_matching.proofs.sides.side_of_column_references.Goals as goal

pub returns : goal.returns
returns c =
    λ records t is. side-seen records t c.sides.ensures (c.seen_sides.ensures records t is)
