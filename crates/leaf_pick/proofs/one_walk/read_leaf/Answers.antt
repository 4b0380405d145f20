-- `read_leaf`: a leaf that is passed matches nothing; a KNN match stops the walk; of any other the first match is remembered.
use Rattle.leaf_pick.proofs.OneWalkLeafLaws.{leaf-stops, leaf-unmatched}
use Rattle.leaf_pick.proofs.one_walk.read_leaf.Goals as goal

pub returns-then-is_passed : goal.returns-then-is_passed
returns-then-is_passed c =
    λ records t over.
    let there = c.requires in
    leaf-unmatched (c.is_passed.ensures c.if-is_passed.true _ records _ _ _ t (there.is _ t over.tree))

pub returns-in-Ok : goal.returns-in-Ok
returns-in-Ok c =
    λ records t over first known.
    rw c.seen_here.ensures (leaf-stops c.args.leaf _ (c.in-Ok.ensures records t over) first)

pub returns-in-Err-Unmatched : goal.returns-in-Err-Unmatched
returns-in-Err-Unmatched c =
    λ records t over. leaf-unmatched (rw c.in-Err-Unmatched.field-0-is at (c.in-Err-Unmatched.ensures records t over))
