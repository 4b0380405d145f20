-- `extract_in_one_walk`: what the walk remembers is the pick, and the And above it is found.
use Rattle.leaf_pick.proofs.one_walk.Taking.{root-at, root-argued, walked-nothing, seen-leaf, seen-node, up-node, walked-leaf}
use Rattle.leaf_pick.proofs.one_walk.extract_in_one_walk.Goals as goal

pub walk_once-walk-requires : goal.walk_once-walk-requires
walk_once-walk-requires c =
    root-argued c.requires.of_tree c.requires.framed

pub returns-in_default : goal.returns-in_default
returns-in_default c =
    λ records t over. walked-nothing (c.walk_once-walk.ensures records t (root-at c.requires.of_tree over)) c.in_default.is

pub start-requires : goal.start-requires
start-requires c =
    let pre = c.requires in
    seen-node (c.walk_once-walk.ensures _ _ (root-at pre.of_tree pre.framed.2)) c.in-Some.is (pre.of_tree _ _ pre.framed.2.tree)

pub end-requires : goal.end-requires
end-requires c =
    let pre = c.requires in
    seen-node (c.walk_once-walk.ensures _ _ (root-at pre.of_tree pre.framed.2)) c.in-Some.is (pre.of_tree _ _ pre.framed.2.tree)

pub parent_of-requires : goal.parent_of-requires
parent_of-requires c =
    let pre = c.requires in
    seen-leaf (c.walk_once-walk.ensures _ _ (root-at pre.of_tree pre.framed.2)) c.in-Some.is (pre.of_tree _ _ pre.framed.2.tree)

pub start-requires-2 : goal.start-requires-2
start-requires-2 c =
    let pre = c.requires in
    up-node (c.walk_once-walk.ensures _ _ (root-at pre.of_tree pre.framed.2)) c.in-Some.is (pre.of_tree _ _ pre.framed.2.tree)
    c.parent_of.ensures

pub returns : goal.returns
returns c =
    λ records t over.
    walked-leaf (c.walk_once-walk.ensures records t (root-at c.requires.of_tree over)) c.in-Some.is (c.requires.of_tree _ t over.tree)
    c.parent_of.ensures c.start.ensures c.end.ensures c.start-2.ensures
