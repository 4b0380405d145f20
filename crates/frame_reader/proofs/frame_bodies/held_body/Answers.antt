-- The same by the walk that holds the expression to the table.
use native.Mathlib.Omega.{arith}
use mathlib.Core.Path.{◌∙◌}
use Rattle.std.proofs.Common.{inl}
use Rattle.theorems.proofs.ReaderLaws.{after}
use Rattle.node_reader.proofs.Reading.{kept}
use Rattle.node_reader.proofs.Standing.{all-bytes}
use Rattle.frame_reader.proofs.Heads.{frame-stands, held-ends}
use Rattle.frame_reader.proofs.frame_bodies.held_body.Goals as goal

pub returns-in_err-head : goal.returns-in_err-head
returns-in_err-head c =
    rw (kept c.from_residual.ensures) (inl (c.in_err-head.ensures 0))

pub returns-in_err-walked : goal.returns-in_err-walked
returns-in_err-walked c =
    let a = c.args in
    rw (kept c.from_residual-in_err-walked.ensures)
    (held-ends c.in_ok-head.ensures (all-bytes a.s.now c.type_inv.s) c.requires a.table.now _ c.in_err-walked.ensures)

pub returns : goal.returns
returns c =
    let head = c.in_ok-head.ensures in
    let expr = c.in_ok-walked.ensures in
    rw c.body_of.ensures (
      expr.2.bytes.within,
      _,
      head.reads _ ∙ after _ expr.1,
      frame-stands head expr.2 (omega (arith, expr.3)),
      omega (arith, expr.3),
      expr.4,
      expr.5,
    )
