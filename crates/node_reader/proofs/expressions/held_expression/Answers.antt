-- The records that were held to the table are those of the expression.
use Rattle.node_reader.proofs.Standing.{all-bytes, expression-held}
use Rattle.node_reader.proofs.VisitLaws.{checked}
use Rattle.node_reader.proofs.expressions.held_expression.Goals as goal

pub returns : goal.returns
returns c =
    let a = c.args in
    expression-held _ a.s.now a.at a.count (all-bytes a.s.now c.type_inv.s) c.requires a.table.now c.root.result
    (checked a.s.now a.at a.count 64 _ c.root.result _ c.root.new.v c.root.ensures.read)
