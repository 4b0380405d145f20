-- Its head, then query and object.
use Rattle.definitions.specs.Words.Basics.{big_endian}
use Rattle.byte_writer.proofs.Sequence.{head-room, rest-room, headed-put}
use Rattle.plan_writer.specs.Predicates.{knn_head}
use Rattle.plan_writer.proofs.PredicateLaws.{knn-view}
use Rattle.plan_writer.proofs.put_predicate.put_knn.Goals as goal

pub put_knn_head-w-requires : goal.put_knn_head-w-requires
unfolding knn_head big_endian
put_knn_head-w-requires c =
    let a = c.args in
    head-room (knn-view a.indexes a.src.now a.p _ c.negate.ensures) c.requires

pub put_both-requires : goal.put_both-requires
put_both-requires c =
    let head = c.put_knn_head-w in
    let a = c.args in
    rest-room (knn-view a.indexes a.src.now a.p _ c.negate.ensures) c.requires head.ensures head.auto.out

pub returns : goal.returns
returns c =
    let a = c.args in
    headed-put (knn-view a.indexes a.src.now a.p _ c.negate.ensures) c.put_knn_head-w.ensures c.put_both.ensures
