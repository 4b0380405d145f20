-- The records that were put into the row are those of the expression.
use Rattle.std.proofs.Common.{rules}
use Rattle.node_reader.proofs.Standing.{all-bytes, expression-stands}
use Rattle.node_reader.proofs.VisitLaws.{filled, put-recorded}
use Rattle.node_reader.proofs.expressions.fill_expression.Goals as goal

pub returns : goal.returns
returns c =
    let a = c.args in
    expression-stands _ a.s.now a.at a.count (all-bytes a.s.now c.type_inv.s) c.requires.0 _ _
    (λ end e put. put-recorded a.at a.count end e a.row.now _ put) c.root.result
    (filled a.s.now a.at a.count 64 _ c.root.result _ c.root.new.v _ (λ e. search rules) c.root.ensures.read)
