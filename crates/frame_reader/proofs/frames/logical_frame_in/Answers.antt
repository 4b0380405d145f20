-- A frame of the sort 2 whose body is an expression with fields of the schemas; nothing is left to test, and there was room for it in the
-- row.
use native.Mathlib.Omega.{arith}
use mathlib.Core.Path.{ap}
use Rattle.definitions.specs.Bytes.Readers.{give, result_of}
use Rattle.definitions.specs.Bytes.Decode.{fields, expression}
use Rattle.definitions.specs.Bytes.Plans.{logical_frame, logical_of}
use Rattle.node_reader.proofs.Reading.{kept}
use Rattle.frame_reader.proofs.FrameRows.{opened-short, read-recorded}
use Rattle.frame_reader.proofs.Wholes.{unopened, body-stops, ends, goes_on}
use Rattle.frame_reader.proofs.frames.logical_frame_in.Goals as goal

pub fill_expression-requires : goal.fill_expression-requires
fill_expression-requires c =
    let begin = c.in_ok-root.ensures in
    (begin.0, omega (arith, opened-short 2 _ _ _ (begin.2 0)))

pub returns-in_err-root : goal.returns-in_err-root
unfolding logical_of logical_frame result_of
returns-in_err-root c =
    rw (kept c.from_residual.ensures) (ap result_of (unopened 2 (expression fields) give _ (c.in_err-root.ensures 0)))

pub returns-in_err-walked : goal.returns-in_err-walked
unfolding logical_of logical_frame result_of
returns-in_err-walked c =
    rw (kept c.from_residual-in_err-walked.ensures)
    (ap result_of (body-stops 2 (expression fields) give _ c.in_ok-root.root _ (c.in_ok-root.ensures.2 0) c.in_err-walked.ensures))

pub returns-then-walked-s : goal.returns-then-walked-s
unfolding logical_of logical_frame result_of
returns-then-walked-s c =
    let expr = c.in_ok-walked.ensures in
    ap result_of (goes_on 2 (expression fields) give _ c.in_ok-root.root _ (c.in_ok-root.ensures.2 0) _ _ _ expr.1
    expr.2.bytes.within c.if-walked-s.true)

pub returns : goal.returns
unfolding logical_of logical_frame result_of
returns c =
    let expr = c.in_ok-walked.ensures in
    let end = c.if-walked-s.false in (
      expr.0,
      rw end at expr.2,
      ap result_of (ends 2 (expression fields) give _ c.in_ok-root.root _ (c.in_ok-root.ensures.2 0) _ _ _ expr.1 end),
      omega (arith, expr.3),
      read-recorded c.args.row.now c.fill_expression.new.row c.requires c.fill_expression.auto.row expr.2 (omega (arith, expr.3)) expr.4
          expr.5,
    )
