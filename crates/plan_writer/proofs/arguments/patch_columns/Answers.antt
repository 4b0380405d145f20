-- `patch_columns`: a turn passes one node; a column's new index is put where the copy has the old one.
use native.Mathlib.Omega.{arith}
use Rattle.plan_writer.proofs.Copying.{Patching, patched, patching-begins, patching-ends, patching-tree, tree-there, column-within, column-room, column-passed, head-later, head-passed, all-patched}
use Rattle.expression.proofs.Standing.{node-some}
use Rattle.plan_writer.proofs.arguments.patch_columns.Goals as goal
use Rattle.plan_writer.proofs.arguments.patch_columns.Goals.{In-loop-next}

-- What the loop keeps here.
kept : (c : In-loop-next)
    → let a = c.args in
    Patching a.src.now a.start a.end a.to.now a.w (patched c.requires) c.loop-next.next c.loop-next.out
kept c =
    c.loop-next.invariant c.requires

pub loop-next-init : goal.loop-next-init
loop-next-init c =
    λ p. patching-begins p

pub bounds-src-next : goal.bounds-src-next
bounds-src-next c =
    node-some (patching-tree (kept (goal.at.bounds-src-next c).In-loop-next) c.loop-next-test.true).1

pub short_at-requires : goal.short_at-requires
short_at-requires c =
    let k = kept (goal.at.short_at-requires c).In-loop-next in
    omega (arith, (column-within k c.loop-next-test.true c.if-src-next-eq-COLUMN.true).0)

pub bounds-to-short_at : goal.bounds-to-short_at
bounds-to-short_at c =
    let k = kept (goal.at.bounds-to-short_at c).In-loop-next in
    omega (arith, c.short_at.ensures, (column-within k c.loop-next-test.true c.if-src-next-eq-COLUMN.true).1)

pub overflow_sub-next : goal.overflow_sub-next
overflow_sub-next c =
    (kept (goal.at.overflow_sub-next c).In-loop-next).low

pub overflow_add-w : goal.overflow_add-w
overflow_add-w c =
    let k = kept (goal.at.overflow_add-w c).In-loop-next in
    omega (arith, c.well_formed, column-room k c.loop-next-test.true c.if-src-next-eq-COLUMN.true)

pub overflow_add-w-then-src-next-eq-COLUMN : goal.overflow_add-w-then-src-next-eq-COLUMN
overflow_add-w-then-src-next-eq-COLUMN c =
    let k = kept (goal.at.overflow_add-w-then-src-next-eq-COLUMN c).In-loop-next in
    omega (arith, c.well_formed, column-room k c.loop-next-test.true c.if-src-next-eq-COLUMN.true)

pub put_number-requires : goal.put_number-requires
put_number-requires c =
    let k = kept (goal.at.put_number-requires c).In-loop-next in
    omega (arith, column-room k c.loop-next-test.true c.if-src-next-eq-COLUMN.true)

pub overflow_add-next-then-src-next-eq-COLUMN : goal.overflow_add-next-then-src-next-eq-COLUMN
overflow_add-next-then-src-next-eq-COLUMN c =
    let k = kept (goal.at.overflow_add-next-then-src-next-eq-COLUMN c).In-loop-next in
    omega (arith, c.well_formed, (column-within k c.loop-next-test.true c.if-src-next-eq-COLUMN.true).0)

pub loop-next-preserved-then-src-next-eq-COLUMN : goal.loop-next-preserved-then-src-next-eq-COLUMN
loop-next-preserved-then-src-next-eq-COLUMN c =
    λ p. column-passed (c.loop-next.invariant p) c.loop-next-test.true c.if-src-next-eq-COLUMN.true
    (rw (c.from.ensures, c.short_at.ensures) at c.put_number.ensures)

pub head_at-next-requires : goal.head_at-next-requires
head_at-next-requires c =
    tree-there (kept (goal.at.head_at-next-requires c).In-loop-next) c.loop-next-test.true

pub loop-next-smaller : goal.loop-next-smaller
loop-next-smaller c =
    let k = kept (goal.at.loop-next-smaller c).In-loop-next in
    let head = c.head_at-next in
    omega (arith, c.loop-next-test.true, head-later k c.loop-next-test.true c.if-src-next-eq-COLUMN.false head.result head.ensures)

pub loop-next-preserved : goal.loop-next-preserved
loop-next-preserved c =
    λ p.
    let head = c.head_at-next in
    head-passed (c.loop-next.invariant p) c.loop-next-test.true c.if-src-next-eq-COLUMN.false head.result head.ensures

pub returns : goal.returns
returns c =
    all-patched c.requires (patching-ends (c.loop-next.invariant c.requires) (omega (arith, c.loop-next-test.false)))
