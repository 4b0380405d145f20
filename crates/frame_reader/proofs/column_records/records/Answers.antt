-- One record and then the others: what is right for those left is right for all.
use Rattle.node_reader.proofs.Reading.{kept}
use Rattle.node_reader.proofs.Repeats.{one_fewer, one-stops, none-left}
use Rattle.frame_reader.proofs.column_records.records.Goals as goal

pub returns-in_err-next : goal.returns-in_err-next
returns-in_err-next c =
    rw (kept c.from_residual.ensures) (one-stops _ _ _ _ _ _ c.loop.invariant.1 c.loop-test.true _ c.in_err-next.ensures)

pub loop-preserved : goal.loop-preserved
loop-preserved c =
    let one = c.in_ok-next.ensures in
    (one.0, one_fewer _ _ _ _ _ _ c.loop.invariant.1 c.loop-test.true _ _ one.2)

pub returns : goal.returns
returns c =
    none-left _ _ _ _ _ _ c.loop.invariant.1 c.loop-test.false c.loop.invariant.0
