-- A table that does not begin with the frame's records is refused as no plan is; else it does not matter.
use Rattle.node_reader.proofs.Standing.{all-bytes}
use Rattle.node_table.specs.Records.{nodes_of}
use Rattle.call_extract.proofs.Tables.{refused-lent, lent}
use Rattle.call_extract.proofs.call.extract_lent.Goals as goal

pub returns-in-Err : goal.returns-in-Err
returns-in-Err c =
    let a = c.args in
    rw c.refused.ensures (refused-lent _ a.n a.plan.now a.scratch.now (nodes_of a.table.now) c.requires c.in-Err.ensures)

pub returns-in-Ok : goal.returns-in-Ok
returns-in-Ok c =
    let a = c.args in
    lent a.n a.plan.now c.requires (all-bytes a.plan.now c.slice_known-1.given) a.table.now _ a.scratch.now c.in-Ok.held c.in-Ok.ensures
    c.extract_held.ensures
