-- The first byte with the position, and the fields into the part after them.
use native.Mathlib.Omega.{arith}
use Rattle.definitions.specs.Words.Basics.{big_endian}
use Rattle.definitions.specs.Bytes.Encode.{predicate_fields}
use Rattle.sedona_query_planner.specs.Predicates.{PredicateAt}
use Rattle.byte_writer.specs.Writing.{Room}
use Rattle.byte_writer.proofs.Sequence.{part_room, part-put, ends-within, head-room, rest-room, headed-put}
use Rattle.plan_writer.specs.Arguments.{change_of}
use Rattle.plan_writer.specs.Predicates.{head_of}
use Rattle.plan_writer.proofs.PredicateLaws.{PredicateView, predicate-view}
use Rattle.plan_writer.proofs.put_predicate.put_predicate.Goals as goal
use Rattle.plan_writer.proofs.put_predicate.put_predicate.Goals.{After-predicate_kind-kind, After-put_head-w}

view : (c : After-predicate_kind-kind)
    → let a = c.args in
    PredicateView (change_of a.indexes) a.src.now a.p c.predicate_kind-kind.result a.position
view c =
    let a = c.args in
    predicate-view (change_of a.indexes) a.src.now a.p _ a.position c.predicate_kind-kind.ensures

-- The fields have room where the head ended.
fields-room : (c : After-put_head-w)
    → let a = c.args in
    Room (PredicateAt (change_of a.indexes) a.src.now a.p) predicate_fields c.put_head-w.result
    c.put_head-w.new.out
fields-room c =
    let a = c.args in
    rest-room (predicate-view (change_of a.indexes) a.src.now a.p _ a.position c.predicate_kind-kind.ensures) c.requires
    c.put_head-w.ensures c.put_head-w.auto.out

pub put_head-w-requires : goal.put_head-w-requires
unfolding head_of big_endian
put_head-w-requires c =
    head-room (view (goal.at.put_head-w-requires c).After-predicate_kind-kind) c.requires

pub put_fields-requires : goal.put_fields-requires
put_fields-requires c =
    part_room (fields-room (goal.at.put_fields-requires c).After-put_head-w)

pub overflow_add-result : goal.overflow_add-result
overflow_add-result c =
    let fields = c.put_fields in
    omega (
      arith,
      c.well_formed,
      c.put_head-w.auto.out,
      ends-within (fields-room (goal.at.overflow_add-result c).After-put_head-w)
          (part-put c.put_head-w.new.out fields.new.out c.put_head-w.result fields.ensures),
    )

pub returns : goal.returns
returns c =
    let fields = c.put_fields in
    headed-put (view (goal.at.returns c).After-predicate_kind-kind) c.put_head-w.ensures
    (part-put c.put_head-w.new.out fields.new.out c.put_head-w.result fields.ensures)
