-- `match_distance_predicate`: the parsed arguments stand in the frame, so their sides are those of the definition.
use Rattle.leaf_matching.proofs.Missing.{missed}
use Rattle.leaf_matching.proofs.distance.DistanceLaws.{no_distance, Parses, Walked, distance-argued, arg0-argued, arg1-argued, distance-undefined, distance-neither, distance-left, distance-right}
use Rattle.leaf_matching.proofs.distance.match_distance_predicate.Goals as goal
use Rattle.leaf_matching.proofs.distance.match_distance_predicate.Goals.{In_ok-parsed, After-side_of_column_references-arg1, in-LeftRight, in-RightLeft}

asked : (c : In_ok-parsed)
    → let f = c.args.filter in Parses f.tree.bytes.now f.tree.nodes.now c.args.at c.in_ok-parsed.parsed
asked c = rw c.in_ok-parsed.ensures.ok_part at c.parse_distance_predicate.ensures

walked : (c : After-side_of_column_references-arg1)
    → let f = c.args.filter in
    Walked f.tree.bytes.now f.tree.nodes.now f.rec c.args.at c.in_ok-parsed.parsed c.side_of_column_references-arg0.result
    c.side_of_column_references-arg1.result c.side_of_column_references-distance.result
walked c =
    record {
      asked = rw c.in_ok-parsed.ensures.ok_part at c.parse_distance_predicate.ensures;
      first = c.side_of_column_references-arg0.ensures;
      second = c.side_of_column_references-arg1.ensures;
      limit = c.side_of_column_references-distance.ensures;
    }

pub side_of_column_references-distance-requires : goal.side_of_column_references-distance-requires
side_of_column_references-distance-requires c =
    distance-argued (asked (goal.at.side_of_column_references-distance-requires c).In_ok-parsed) c.requires.framed

pub side_of_column_references-arg0-requires : goal.side_of_column_references-arg0-requires
side_of_column_references-arg0-requires c =
    arg0-argued (asked (goal.at.side_of_column_references-arg0-requires c).In_ok-parsed) c.requires.framed

pub side_of_column_references-arg1-requires : goal.side_of_column_references-arg1-requires
side_of_column_references-arg1-requires c =
    arg1-argued (asked (goal.at.side_of_column_references-arg1-requires c).In_ok-parsed) c.requires.framed

pub returns-in_err-parsed : goal.returns-in_err-parsed
returns-in_err-parsed c =
    λ records t over.
    let none = missed _ c.parse_distance_predicate.result _ c.in_err-parsed.ensures.value c.from_residual.ensures in
    rw none.1 (no_distance records t ((rw none.0 at c.parse_distance_predicate.ensures) _ t over.tree))

pub returns-in_err-distance_side : goal.returns-in_err-distance_side
returns-in_err-distance_side c =
    λ records t over.
    let none = missed _ c.side_of_distance.result _ c.in_err-distance_side.ensures.value c.from_residual-in_err-distance_side.ensures in
    rw none.1 (distance-undefined (walked (goal.at.returns-in_err-distance_side c).After-side_of_column_references-arg1) over
    (rw none.0 at c.side_of_distance.ensures))

pub returns-in_err-order : goal.returns-in_err-order
returns-in_err-order c =
    λ records t over.
    let none = missed _ c.resolve_column_reference_sides.result _ c.in_err-order.ensures.value c.from_residual-in_err-order.ensures in
    rw none.1 (distance-neither (walked (goal.at.returns-in_err-order c).After-side_of_column_references-arg1) over
    (rw c.in_ok-distance_side.ensures.ok_part at c.side_of_distance.ensures) (rw none.0 at c.resolve_column_reference_sides.ensures))

pub returns : goal.returns
returns c =
    λ records t over.
    let w = walked (goal.at.returns c).After-side_of_column_references-arg1 in
    let known = rw c.in_ok-distance_side.ensures.ok_part at c.side_of_distance.ensures in
    rw c.from.ensures (elim c.match-order.branch [
      | in-LeftRight v ↦ distance-left w over known (c.start-3.ensures, c.end-3.ensures)
          (rw v.left-is at c.start.ensures, rw v.left-is at c.end.ensures)
          (rw v.left-is at c.start-2.ensures, rw v.left-is at c.end-2.ensures)
          (rw (c.in_ok-order.ensures.ok_part, v.in-LeftRight.is) at c.resolve_column_reference_sides.ensures)
      | in-RightLeft v ↦ distance-right w over known (c.start-3.ensures, c.end-3.ensures)
          (rw v.left-is at c.start.ensures, rw v.left-is at c.end.ensures)
          (rw v.left-is at c.start-2.ensures, rw v.left-is at c.end-2.ensures)
          (rw (c.in_ok-order.ensures.ok_part, v.in-RightLeft.is) at c.resolve_column_reference_sides.ensures)
    ])
