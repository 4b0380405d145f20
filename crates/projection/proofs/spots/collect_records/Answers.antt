-- `collect_records`: the child indexes of the records passed are in the row.
use Rattle.terms.specs.Sides.{join_side}
use Rattle.projection.proofs.RecordLoop.{filling-goes-on, filling-ends}
use Rattle.projection.proofs.spots.collect_records.Goals as goal
use Rattle.projection.proofs.spots.collect_records.Goals.{In-loop-k}

pub loop-k-preserved : goal.loop-k-preserved
loop-k-preserved c =
    let side = c.from-side in
    filling-goes-on c.requires c.loop-k.invariant c.loop-k-test.true (join_side side.result)
    (rw (c.from.ensures, c.side.ensures) at side.ensures)
    c.from-in-loop-k.result (rw c.child.ensures at c.from-in-loop-k.ensures) c.spot_number.result c.spot_number.ensures

pub returns : goal.returns
returns c =
    filling-ends c.requires c.loop-k.invariant c.loop-k-test.false
