-- `put_knn_head`: k in four bytes, then three bytes.
use Rattle.plan_writer.proofs.PredicateLaws.{knn-head}
use Rattle.plan_writer.proofs.put_predicate.put_knn_head.Goals as goal

pub returns : goal.returns
returns c =
    let call = c.put_number in
    let a = c.args in
    rw (c.from.ensures, c.from-2.ensures, c.ties_number.ensures)
    (knn-head a.p a.out.now c.requires call.auto.out call.ensures)
