-- `collect_column_references`: a turn passes one node; a column's flag is set.
use native.Mathlib.Omega.{arith}
use lib.ListN.{length}
use Rattle.definitions.specs.Words.References.{columns_of}
use Rattle.expression.proofs.Standing.{node-some}
use Rattle.remainder.specs.References.{marked}
use Rattle.remainder.proofs.ReferenceLaws.{Collecting, collecting-begins, all-collected, collecting-ends, collecting-tree, tree-there, column-flag, column-passed, head-later, head-passed}
use Rattle.remainder.proofs.references.collect_column_references.Goals as goal
use Rattle.remainder.proofs.references.collect_column_references.Goals.{In-loop-next}

-- What the loop keeps here.
kept : (c : In-loop-next)
    → let a = c.args in
    Collecting a.src.now a.end (length a.used.now) (marked (columns_of c.requires.0) a.used.now) c.loop-next.next c.loop-next.used
kept c =
    c.loop-next.invariant c.requires

pub loop-next-init : goal.loop-next-init
loop-next-init c =
    λ p. collecting-begins p

pub bounds-src-next : goal.bounds-src-next
bounds-src-next c =
    node-some (collecting-tree (kept (goal.at.bounds-src-next c).In-loop-next) c.loop-next-test.true).1

pub short_at-requires : goal.short_at-requires
short_at-requires c =
    let k = kept (goal.at.short_at-requires c).In-loop-next in
    omega (arith, (column-flag k c.loop-next-test.true c.if-src-next-eq-COLUMN.true).0)

pub bounds-used-short_at : goal.bounds-used-short_at
bounds-used-short_at c =
    let k = kept (goal.at.bounds-used-short_at c).In-loop-next in
    omega (arith, c.short_at.ensures, (column-flag k c.loop-next-test.true c.if-src-next-eq-COLUMN.true).1)

pub overflow_add-next-then-src-next-eq-COLUMN : goal.overflow_add-next-then-src-next-eq-COLUMN
overflow_add-next-then-src-next-eq-COLUMN c =
    let k = kept (goal.at.overflow_add-next-then-src-next-eq-COLUMN c).In-loop-next in
    omega (arith, c.well_formed, (column-flag k c.loop-next-test.true c.if-src-next-eq-COLUMN.true).0)

pub loop-next-preserved-then-src-next-eq-COLUMN : goal.loop-next-preserved-then-src-next-eq-COLUMN
loop-next-preserved-then-src-next-eq-COLUMN c =
    λ p. rw (c.short_at.ensures) (column-passed (c.loop-next.invariant p) c.loop-next-test.true c.if-src-next-eq-COLUMN.true)

pub head_at-next-requires : goal.head_at-next-requires
head_at-next-requires c =
    tree-there (kept (goal.at.head_at-next-requires c).In-loop-next) c.loop-next-test.true

pub loop-next-smaller : goal.loop-next-smaller
loop-next-smaller c =
    let k = kept (goal.at.loop-next-smaller c).In-loop-next in
    let head = c.head_at-next in
    omega (arith, c.loop-next-test.true, head-later k c.loop-next-test.true c.if-src-next-eq-COLUMN.false head.result head.ensures)

pub loop-next-preserved : goal.loop-next-preserved
loop-next-preserved c =
    λ p.
    let head = c.head_at-next in
    head-passed (c.loop-next.invariant p) c.loop-next-test.true c.if-src-next-eq-COLUMN.false head.result head.ensures

pub returns : goal.returns
returns c =
    all-collected c.args.used.now c.requires (collecting-ends (c.loop-next.invariant c.requires) (omega (arith, c.loop-next-test.false)))
