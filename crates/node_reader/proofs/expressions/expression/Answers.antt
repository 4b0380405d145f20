-- Nothing is claimed but that it was read.
use Rattle.node_reader.proofs.Standing.{all-bytes, expression-stands}
use Rattle.node_reader.proofs.VisitLaws.{only-read}
use Rattle.node_reader.proofs.expressions.expression.Goals as goal

pub returns : goal.returns
returns c =
    let a = c.args in
    expression-stands _ a.s.now a.at a.count (all-bytes a.s.now c.type_inv.s) c.requires _ _
    (λ end e read. tt) c.root.result
    (only-read a.s.now a.at a.count 64 _ c.root.result _ c.root.new.v c.root.ensures.read)
