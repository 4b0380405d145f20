-- `match_or_pass`: in an And, what the left side finds comes first, and the loop goes on with the right side, where the left one
-- ends.
-- A call goes to a place further on, so the measure is the bytes left.
use native.Mathlib.Omega.{arith}
use Rattle.leaf_matching.proofs.Framing.{framed-tree}
use Rattle.expression.proofs.AndLeaves.{single-leaf}
use Rattle.leaf_pick.proofs.FirstLaws.{along-begins, along-within, stop-node, along-taken, along-passed, along-noded, left-node, left_there, left-passed, along-left, along-less, along-right}
use Rattle.leaf_pick.proofs.first_match.+match_or_pass.Goals as goal

pub loop-left-init : goal.loop-left-init
loop-left-init t c =
    let pre = c.requires in along-begins pre.framed pre.of_tree pre.position_le_at

pub node_at-node-requires : goal.node_at-node-requires
node_at-node-requires t c =
    framed-tree c.loop-left.invariant.there

pub leaf_match-requires : goal.leaf_match-requires
leaf_match-requires t c =
    let inv = c.loop-left.invariant in
    let node = c.node_at-node in record {
      leaf_there = record { framed = inv.there; noded = inv.noded; is = node.ensures };
      of_frame = (λ records u over. single-leaf node.result node.ensures over.tree c.in_default.not-And);
      position_le_at = inv.few;
    }

pub returns-in_err-position : goal.returns-in_err-position
returns-in_err-position t c =
    rw c.from_residual.ensures (along-taken c.loop-left.invariant c.in_err-position.ensures)

pub after-after-requires : goal.after-after-requires
after-after-requires t c =
    stop-node c.loop-left.invariant

pub returns-in_default : goal.returns-in_default
returns-in_default t c =
    along-passed c.loop-left.invariant c.in_ok-position.ensures c.after-after.ensures

pub overflow_add-below : goal.overflow_add-below
overflow_add-below t c =
    omega (arith, c.well_formed, along-within c.loop-left.invariant)

pub match_or_pass-requires : goal.match_or_pass-requires
match_or_pass-requires t c =
    let is = c.node_at-node.ensures in
    let told = c.in-And.is in
    let left = left_there c.loop-left.invariant is told c.decreases in
    (left.0, (left.1.0, (along-noded c.loop-left.invariant is told, left.1.1)))

pub returns-in_err-passed : goal.returns-in_err-passed
returns-in_err-passed t c =
    rw c.from_residual-in_err-passed.ensures
    (along-left c.loop-left.invariant c.node_at-node.ensures c.in-And.is c.in_err-passed.ensures)

pub end-requires : goal.end-requires
end-requires t c =
    left-node c.loop-left.invariant c.node_at-node.ensures c.in-And.is

pub loop-left-smaller : goal.loop-left-smaller
loop-left-smaller t c =
    let inv = c.loop-left.invariant in
    let node = c.node_at-node.ensures in
    along-less inv node c.in-And.is (left-passed inv node c.in-And.is c.in_ok-passed.ensures).0 c.end.ensures

pub loop-left-preserved : goal.loop-left-preserved
loop-left-preserved t c =
    let inv = c.loop-left.invariant in
    let node = c.node_at-node.ensures in
    let left = left-passed inv node c.in-And.is c.in_ok-passed.ensures in
    along-right inv node c.in-And.is left.0 c.end.ensures _ left.1
