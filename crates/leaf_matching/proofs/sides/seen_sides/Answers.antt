-- `seen_sides`: the next column that is left is seen.
use native.Mathlib.Omega.{arith}
use mathlib.Core.Path.{◌∙◌, ap}
use Rattle.definitions.specs.Bytes.Decode.{side_numbered}
use Rattle.leaf_matching.proofs.SideWalk.{over-fits, over-entry}
use Rattle.leaf_matching.proofs.SideWalk.{left-begins, left-here, left-more}
use Rattle.leaf_matching.proofs.sides.seen_sides.Goals as goal

pub loop-place-init : goal.loop-place-init
loop-place-init c =
    rw c.into_iter-place-iterator.ensures.into_iter_gives (left-begins c.columns-place-items.ensures)

pub overflow_add-place : goal.overflow_add-place
overflow_add-place c =
    let here = left-here (c.loop-place.invariant c.requires.0 c.requires.1 c.requires.2) c.in-Some.ensures.steps in
    omega (arith, c.well_formed, over-fits here)

pub short_at-index-requires : goal.short_at-index-requires
short_at-index-requires c =
    let here = left-here (c.loop-place.invariant c.requires.0 c.requires.1 c.requires.2) c.in-Some.ensures.steps in
    omega (arith, over-fits here)

pub overflow_mul-index : goal.overflow_mul-index
overflow_mul-index c =
    let here = left-here (c.loop-place.invariant c.requires.0 c.requires.1 c.requires.2) c.in-Some.ensures.steps in
    omega (arith, c.well_formed, c.short_at-index.ensures, over-entry here)

pub overflow_add-filter : goal.overflow_add-filter
overflow_add-filter c =
    let here = left-here (c.loop-place.invariant c.requires.0 c.requires.1 c.requires.2) c.in-Some.ensures.steps in
    omega (arith, c.well_formed, c.short_at-index.ensures, over-entry here)

pub bounds-filter-filter : goal.bounds-filter-filter
bounds-filter-filter c =
    let here = left-here (c.loop-place.invariant c.requires.0 c.requires.1 c.requires.2) c.in-Some.ensures.steps in
    omega (arith, c.short_at-index.ensures, over-entry here)

pub loop-place-preserved : goal.loop-place-preserved
loop-place-preserved c =
    λ records t is.
    left-more (c.loop-place.invariant records t is) c.in-Some.ensures.steps _ c.short_at-index.ensures
    _ (c.from-side.ensures ∙ ap side_numbered c.from.ensures) _ c.with-seen.ensures
