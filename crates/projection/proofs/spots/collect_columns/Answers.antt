-- `collect_columns`: a turn passes one node; a column is put into the row, of any other node the children are then the first that are left.
use Prim.Native.Nat.{ℕ, ◌+◌}
use native.Mathlib.Omega.{arith}
use mathlib.Core.Path.{ap, ◌∙◌}
use Rattle.terms.specs.Sides.{join_side}
use Rattle.expression.proofs.Standing.{node-some}
use Rattle.projection.specs.Spots.{spot_number}
use Rattle.projection.proofs.SpotWalk.{collecting-begins, collecting-ends, collecting-tree, tree-there, column-within, column-passed, head-later, head-passed, left-few}
use Rattle.projection.proofs.spots.collect_columns.Goals as goal

pub loop-left-init : goal.loop-left-init
loop-left-init c =
    λ p. collecting-begins p

pub bounds-src-end : goal.bounds-src-end
bounds-src-end c =
    node-some (collecting-tree c.requires (c.loop-left.invariant c.requires) (omega (arith, c.loop-left-test.true))).1

pub short_at-requires : goal.short_at-requires
short_at-requires c =
    omega (
      arith,
      (column-within c.requires (c.loop-left.invariant c.requires) (omega (arith, c.loop-left-test.true))
          c.if-src-end-eq-COLUMN.true).bytes,
    )

pub spot_number-requires : goal.spot_number-requires
spot_number-requires c =
    let own = column-within c.requires (c.loop-left.invariant c.requires) (omega (arith, c.loop-left-test.true))
    c.if-src-end-eq-COLUMN.true in
    (omega (arith, own.limit), omega (arith, c.short_at.ensures, own.child))

pub bounds-row-index : goal.bounds-row-index
bounds-row-index c =
    (column-within c.requires (c.loop-left.invariant c.requires) (omega (arith, c.loop-left-test.true)) c.if-src-end-eq-COLUMN.true).entry

pub loop-left-smaller-then-src-end-eq-COLUMN : goal.loop-left-smaller-then-src-end-eq-COLUMN
loop-left-smaller-then-src-end-eq-COLUMN c =
    omega (
      arith,
      (column-within c.requires (c.loop-left.invariant c.requires) (omega (arith, c.loop-left-test.true))
          c.if-src-end-eq-COLUMN.true).bytes,
    )

pub loop-left-preserved-then-src-end-eq-COLUMN : goal.loop-left-preserved-then-src-end-eq-COLUMN
loop-left-preserved-then-src-end-eq-COLUMN c =
    λ p.
    column-passed p (c.loop-left.invariant p) (omega (arith, c.loop-left-test.true)) c.if-src-end-eq-COLUMN.true c.spot_number.result
    (c.spot_number.ensures
    ∙ ap (λ (n : ℕ). spot_number (record { side = join_side c.args.side; at = c.loop-left.end + 1; child = n })) c.short_at.ensures)

pub head_at-head-requires : goal.head_at-head-requires
head_at-head-requires c =
    tree-there c.requires (c.loop-left.invariant c.requires) (omega (arith, c.loop-left-test.true))

pub overflow_add-left : goal.overflow_add-left
overflow_add-left c =
    let head = c.head_at-head in
    omega (
      arith,
      c.well_formed,
      left-few c.requires (c.loop-left.invariant c.requires) (omega (arith, c.loop-left-test.true)) c.if-src-end-eq-COLUMN.false
          head.result head.ensures,
    )

pub loop-left-smaller : goal.loop-left-smaller
loop-left-smaller c =
    let inv = c.loop-left.invariant c.requires in
    let some = c.loop-left-test.true in
    let head = c.head_at-head in
    omega (
      arith,
      node-some (collecting-tree c.requires inv some).1,
      head-later c.requires inv some c.if-src-end-eq-COLUMN.false head.result head.ensures,
    )

pub loop-left-preserved : goal.loop-left-preserved
loop-left-preserved c =
    λ p.
    let head = c.head_at-head in
    head-passed p (c.loop-left.invariant p) (omega (arith, c.loop-left-test.true)) c.if-src-end-eq-COLUMN.false head.result head.ensures

pub returns : goal.returns
returns c =
    collecting-ends c.requires (c.loop-left.invariant c.requires) (omega (arith, c.loop-left-test.false))
