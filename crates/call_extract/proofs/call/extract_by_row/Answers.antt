-- What is no plan is refused.
use Rattle.call_extract.proofs.Settling.{not-extracted}
use Rattle.call_extract.proofs.call.extract_by_row.Goals as goal

pub returns-in-Err : goal.returns-in-Err
returns-in-Err g c =
    rw c.refused.ensures (not-extracted _ c.args.n c.args.plan.now c.args.scratch.now c.requires.n_in_bounds c.in-Err.ensures)
