-- `patch_columns`: the columns outside the leaf are those of what is left, and stand where they were copied to.
use Prim.Native.Nat.{◌+◌}
use native.Mathlib.Omega.{arith}
use mathlib.Core.Path.{sym, ap, ◌∙◌}
use lib.ListN.{length, get_or}
use Rattle.remainder.proofs.LeftCopies.{first-node, left-movable, PatchPlace, renumber, renumber-put, patching-begins}
use Rattle.filter_tree.proofs.Changing.{change-here, change-ends}
use Rattle.remainder.proofs.LeftCopies.{change-outside, change-inside}
use Rattle.remainder.proofs.reprojecting.patch_columns.Goals as goal
use Rattle.remainder.proofs.reprojecting.patch_columns.Goals.{In-Some}

-- The column that comes.
here : (c : In-Some)
    → let a = c.args in
    PatchPlace a.tree.bytes.now (length a.to.now) a.cut c.start-at.result (length a.out.now) c.in-Some.place
here c =
    let p = c.requires in
    change-here (c.loop-place.invariant p.0 p.1 p.2 p.3 p.4) c.in-Some.ensures.steps

pub start-at-requires : goal.start-at-requires
start-at-requires c = first-node c.requires.3

pub columns-place-items-requires : goal.columns-place-items-requires
columns-place-items-requires c = first-node c.requires.3

pub loop-place-init : goal.loop-place-init
loop-place-init c =
    rw c.into_iter-place-iterator.ensures.into_iter_gives
    (λ at t e left begins. patching-begins c.args.to.now left _ c.start-at.ensures c.columns-place-items.ensures _ begins)

pub overflow_add-place : goal.overflow_add-place
overflow_add-place c = omega (arith, c.ranges.tree, (here (goal.at.overflow_add-place c).In-Some).within)

pub short_at-requires : goal.short_at-requires
short_at-requires c = omega (arith, (here (goal.at.short_at-requires c).In-Some).within)

pub offset_bounds-to-short_at : goal.offset_bounds-to-short_at
offset_bounds-to-short_at c =
    omega (arith, c.well_formed, c.short_at.ensures, (here (goal.at.offset_bounds-to-short_at c).In-Some).below)

pub bounds-to-short_at : goal.bounds-to-short_at
bounds-to-short_at c = omega (arith, c.short_at.ensures, (here (goal.at.bounds-to-short_at c).In-Some).below)

pub moved-requires : goal.moved-requires
moved-requires c =
    left-movable c.requires.3 _ _ c.start-at.ensures (here (goal.at.moved-requires c).In-Some).low (sym c.if-is_outside.ensures)

pub overflow_add-moved : goal.overflow_add-moved
overflow_add-moved c =
    omega (
      arith,
      c.well_formed,
      c.moved.ensures,
      (here (goal.at.overflow_add-moved c).In-Some).room (sym c.if-is_outside.ensures),
    )

pub put_number-requires : goal.put_number-requires
put_number-requires c =
    omega (
      arith,
      c.loop-place.auto.out,
      c.moved.ensures,
      (here (goal.at.put_number-requires c).In-Some).room (sym c.if-is_outside.ensures),
    )

pub loop-place-preserved-then-is_outside : goal.loop-place-preserved-then-is_outside
loop-place-preserved-then-is_outside c =
    λ at t e left begins.
    let a = c.args in
    let s = a.tree.bytes.now in
    change-outside a.cut (renumber s a.cut c.start-at.result a.to.now) (c.loop-place.invariant at t e left begins)
    c.in-Some.ensures.steps c.if-is_outside.ensures _
    (renumber-put s a.cut c.start-at.result a.to.now _ (ap (λ k. k + 1) c.moved.ensures)
    (c.from.ensures ∙ ap (λ k. get_or a.to.now k 0) c.short_at.ensures) c.put_number.ensures)

pub loop-place-preserved : goal.loop-place-preserved
loop-place-preserved c =
    λ at t e left begins.
    let a = c.args in
    change-inside a.cut (renumber a.tree.bytes.now a.cut c.start-at.result a.to.now) (c.loop-place.invariant at t e left begins)
    c.in-Some.ensures.steps c.if-is_outside.ensures

pub returns : goal.returns
returns c =
    λ at t e left begins. change-ends (c.loop-place.invariant at t e left begins) c.in-None.ensures.steps.0
