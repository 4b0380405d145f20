-- An extraction after its first byte, up to the end.
use native.Mathlib.Omega.{arith}
use lib.ListN.{drop}
use Rattle.node_reader.proofs.Reading.{kept}
use Rattle.plan_reader.proofs.Extractions.{unopened, body-stops, ends, goes_on, first-place, first-short}
use Rattle.plan_reader.proofs.held_plans.whole_extraction.Goals as goal

pub extraction_body-requires-clause-place : goal.extraction_body-requires-clause-place
extraction_body-requires-clause-place c =
    let first = c.in_ok-first.ensures in
    (first.0, omega (arith, first-short c.args.s.now c.in_ok-first.first (drop c.in_ok-first.at c.args.s.now) (first.1 0)))

pub returns-in_err-first : goal.returns-in_err-first
returns-in_err-first c =
    rw (kept c.from_residual.ensures) (unopened _ (c.in_err-first.ensures 0))

pub returns-in_err-extraction : goal.returns-in_err-extraction
returns-in_err-extraction c =
    rw (kept c.from_residual-in_err-extraction.ensures)
    (body-stops _ _ c.in_ok-first.at (c.in_ok-first.ensures.1 0) c.in_err-extraction.ensures)

pub returns-then-end-s : goal.returns-then-end-s
returns-then-end-s c =
    let x = c.in_ok-extraction.ensures in
    goes_on _ _ c.in_ok-first.at (c.in_ok-first.ensures.1 0) x.1 _ _ x.4 x.0 c.if-end-s.true

pub returns : goal.returns
returns c =
    let x = c.in_ok-extraction.ensures in
    let first = c.in_ok-first.ensures in (
      x.1,
      rw c.if-end-s.false at x.2,
      ends _ _ c.in_ok-first.at (first.1 0) x.1 _ _ x.4 c.if-end-s.false,
      rw (first-place c.args.s.now _ _ first.0 (first.1 0)) at x.5,
    )
