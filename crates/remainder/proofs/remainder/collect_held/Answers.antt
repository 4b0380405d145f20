-- `collect_held`: the columns outside the leaf are those of what is left, and before the loop no flag was set.
use native.Mathlib.Omega.{arith}
use mathlib.Core.Path.{sym, ap, subst}
use lib.ListN.{set}
use Rattle.remainder.specs.HeldIndexes.{Marks}
use Rattle.remainder.proofs.FlagLaws.{held-marks}
use Rattle.filter_tree.proofs.Changing.{change-here, change-ends}
use Rattle.remainder.proofs.LeftCopies.{first-node, mark_column, marking-begins, change-outside, change-inside}
use Rattle.remainder.proofs.remainder.collect_held.Goals as goal

pub columns-place-items-requires : goal.columns-place-items-requires
columns-place-items-requires c = first-node c.requires.3

pub loop-place-init : goal.loop-place-init
loop-place-init c =
    rw c.into_iter-place-iterator.ensures.into_iter_gives (λ at t e left. marking-begins left c.columns-place-items.ensures _)

pub overflow_add-place : goal.overflow_add-place
overflow_add-place c =
    let p = c.requires in
    omega (arith, c.ranges.tree, change-here (c.loop-place.invariant p.0 p.1 p.2 p.3) c.in-Some.ensures.steps)

pub short_at-requires : goal.short_at-requires
short_at-requires c =
    let p = c.requires in
    omega (arith, change-here (c.loop-place.invariant p.0 p.1 p.2 p.3) c.in-Some.ensures.steps)

pub bounds-used-short_at : goal.bounds-used-short_at
bounds-used-short_at c =
    let p = c.requires in
    omega (
      arith,
      c.short_at.ensures,
      c.loop-place.auto.used,
      change-here (c.loop-place.invariant p.0 p.1 p.2 p.3) c.in-Some.ensures.steps,
    )

pub loop-place-preserved-then-is_outside : goal.loop-place-preserved-then-is_outside
loop-place-preserved-then-is_outside c =
    λ at t e left.
    change-outside c.args.cut (mark_column c.args.tree.bytes.now) (c.loop-place.invariant at t e left) c.in-Some.ensures.steps
    c.if-is_outside.ensures _ (ap (λ k. set c.loop-place.used k 1) c.short_at.ensures)

pub loop-place-preserved : goal.loop-place-preserved
loop-place-preserved c =
    λ at t e left.
    change-inside c.args.cut (mark_column c.args.tree.bytes.now) (c.loop-place.invariant at t e left) c.in-Some.ensures.steps
    c.if-is_outside.ensures

pub returns : goal.returns
returns c =
    λ at t e left.
    subst (Marks e) (sym (change-ends (c.loop-place.invariant at t e left) c.in-None.ensures.steps.0))
    (held-marks e c.args.used.now c.requires.4)
