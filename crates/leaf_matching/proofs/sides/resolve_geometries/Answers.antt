-- `resolve_geometries`: the second geometry is the node after the first.
use Rattle.leaf_matching.proofs.SideWalk.{first-node, first-of-two, second-of-two, second-node, geometries-are}
use Rattle.leaf_matching.proofs.sides.resolve_geometries.Goals as goal

pub after-middle-requires : goal.after-middle-requires
after-middle-requires c =
    first-node c.requires

pub side_of_column_references-first-requires : goal.side_of_column_references-first-requires
side_of_column_references-first-requires c =
    first-of-two c.requires

pub side_of_column_references-second-requires : goal.side_of_column_references-second-requires
side_of_column_references-second-requires c =
    second-of-two c.after-middle.ensures c.requires

pub returns : goal.returns
returns c =
    geometries-are c.after-middle.ensures c.end.ensures c.end-2.ensures _ _
    c.side_of_column_references-first.ensures c.side_of_column_references-second.ensures _ c.resolve_column_reference_sides.ensures

pub end-requires : goal.end-requires
end-requires c =
    first-node c.requires

pub end-requires-2 : goal.end-requires-2
end-requires-2 c =
    second-node c.after-middle.ensures c.requires
