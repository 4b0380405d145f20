-- `column_refs`: with the schemas of the columns that are left all are seen.
use native.Mathlib.Omega.{arith}
use Rattle.logical_filter.proofs.QueryWalk.{joining-begins, field-within, joining-next, joining-ends}
use Rattle.logical_filter.proofs.knn_query_side.column_refs.Goals as goal

pub loop-place-init : goal.loop-place-init
loop-place-init c = λ d p t stands h.
    rw c.into_iter-place-iterator.ensures.into_iter_gives (joining-begins (c.fields-place-items.ensures d p t stands h))

pub loop-place-preserved : goal.loop-place-preserved
loop-place-preserved c = λ d p t stands h.
    joining-next (c.loop-place.invariant d p t stands h) c.in-Some.ensures.steps

pub returns : goal.returns
returns c = λ d p t stands h. joining-ends (c.loop-place.invariant d p t stands h) c.in-None.ensures.steps.0

pub overflow_add-bits : goal.overflow_add-bits
overflow_add-bits c =
    let r = c.requires in
    omega (arith, c.well_formed, field-within (c.loop-place.invariant r.0 r.1 r.2 r.3 r.4) c.in-Some.ensures.steps)

pub bounds-tree-place : goal.bounds-tree-place
bounds-tree-place c =
    let r = c.requires in
    field-within (c.loop-place.invariant r.0 r.1 r.2 r.3 r.4) c.in-Some.ensures.steps
