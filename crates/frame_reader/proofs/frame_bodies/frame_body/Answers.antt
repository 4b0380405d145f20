-- A frame is its head, and its expression from where that ends.
use native.Mathlib.Omega.{arith}
use mathlib.Core.Path.{◌∙◌}
use Rattle.theorems.proofs.ReaderLaws.{after, halts}
use Rattle.node_reader.proofs.Reading.{kept}
use Rattle.frame_reader.proofs.Heads.{frame-stands}
use Rattle.frame_reader.proofs.frame_bodies.frame_body.Goals as goal

pub returns-in_err-walked : goal.returns-in_err-walked
returns-in_err-walked c =
    rw (kept c.from_residual-in_err-walked.ensures) (c.in_ok-head.ensures.reads _ ∙ halts _ c.in_err-walked.ensures)

pub returns : goal.returns
returns c =
    let head = c.in_ok-head.ensures in
    let expr = c.in_ok-walked.ensures in
    rw c.body_of.ensures (
      expr.2.bytes.within,
      _,
      head.reads _ ∙ after _ expr.1,
      frame-stands head expr.2 (omega (arith, expr.3)),
      omega (arith, expr.3),
      expr.4,
      expr.5,
    )
