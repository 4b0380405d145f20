-- `find_knn_query_side`: a side has all columns of the call's first argument and the other side has not.
use native.Mathlib.Omega.{arith}
use mathlib.Core.Path.{◌≡◌, sym, ◌∙◌}
use Rattle.definitions.specs.Words.Expression.{no_side}
use Rattle.definitions.specs.Filter.Names.{query_side_from}
use Rattle.filter_tree.proofs.Scans.{noded-within}
use Rattle.logical_filter.specs.QuerySides.{KnnAt, OfKnn}
use Rattle.logical_filter.proofs.QueryWalk.{side_by, no-knn, no-argument, first-argument, argument-side}
use Rattle.logical_filter.proofs.knn_query_side.find_knn_query_side.Goals as goal
use Rattle.logical_filter.proofs.knn_query_side.find_knn_query_side.Goals.{In-Some, After-column_refs-columns}

-- The call of the index.
call : (c : In-Some) → KnnAt c.args.tree.bytes.now c.args.tree.nodes.now c.in-Some.i c.requires.0
call c = rw c.in-Some.is at c.requires.1

-- The schemas of the first argument's columns decide.
decided : (c : After-column_refs-columns)
    → let columns = c.column_refs-columns.result in
    OfKnn c.args.tree.bytes.now c.args.tree.nodes.now c.args.knn
    (λ q. side_by columns.left columns.right ≡ query_side_from q no_side)
decided c =
    λ q k.
    let call = rw c.in-Some.is at k in
    argument-side call (λ e. c.if-after-first.false (c.after.ensures call.place call.call call.noded ∙ e)) c.column_refs-columns.result
    c.column_refs-columns.ensures

pub returns-in_default : goal.returns-in_default
returns-in_default c = λ q k. no-knn (rw c.in_default.is at k)

pub overflow_add-first : goal.overflow_add-first
overflow_add-first c = omega (arith, c.well_formed, noded-within (call (goal.at.overflow_add-first c).In-Some).noded)

pub returns-then-after-first : goal.returns-then-after-first
returns-then-after-first c =
    λ q k.
    let call = rw c.in-Some.is at k in
    no-argument call (sym (c.after.ensures call.place call.call call.noded) ∙ c.if-after-first.true)

pub column_refs-columns-requires : goal.column_refs-columns-requires
column_refs-columns-requires c =
    let k = call (goal.at.column_refs-columns-requires c).In-Some in
    let first = first-argument k (λ e. c.if-after-first.false (c.after.ensures k.place k.call k.noded ∙ e)) in
    (k.columns, first.1.at, first.0, first.1.stands, first.1.noded)

pub returns-in-true-false : goal.returns-in-true-false
returns-in-true-false c =
    λ q k.
    rw (c.in-true-false.is-0, c.in-true-false.is-1) at (decided (goal.at.returns-in-true-false c).After-column_refs-columns q k)

pub returns-in-false-true : goal.returns-in-false-true
returns-in-false-true c =
    λ q k.
    rw (c.in-false-true.is-0, c.in-false-true.is-1) at (decided (goal.at.returns-in-false-true c).After-column_refs-columns q k)

pub returns-in_default-2 : goal.returns-in_default-2
returns-in_default-2 c =
    λ q k.
    rw (c.in_default-2.is-0, c.in_default-2.is-1) at (decided (goal.at.returns-in_default-2 c).After-column_refs-columns q k)

pub returns-in_default-2-2 : goal.returns-in_default-2-2
returns-in_default-2-2 c =
    λ q k.
    rw (c.in_default-2.is-0, c.in_default-2.is-1) at (decided (goal.at.returns-in_default-2-2 c).After-column_refs-columns q k)
