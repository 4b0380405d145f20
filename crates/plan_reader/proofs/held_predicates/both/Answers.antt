-- The left argument, and the right one from where it ended.
use native.Mathlib.Omega.{arith}
use mathlib.Core.Path.{◌∙◌}
use Rattle.definitions.specs.Bytes.Decode.{argument}
use Rattle.theorems.proofs.ReaderLaws.{after, halts}
use Rattle.node_reader.proofs.Reading.{kept}
use Rattle.frame_reader.proofs.Standing.{expr-spans}
use Rattle.plan_reader.proofs.Fields.{counted-on}
use Rattle.plan_reader.proofs.held_predicates.both.Goals as goal

pub returns-in_err-left : goal.returns-in_err-left
unfolding argument
returns-in_err-left c =
    rw (kept c.from_residual.ensures) (λ next. halts _ c.in_err-left.ensures)

pub returns-in_err-right : goal.returns-in_err-right
unfolding argument
returns-in_err-right c =
    rw (kept c.from_residual-in_err-right.ensures) (λ next. after _ c.in_ok-left.ensures.1 ∙ halts _ c.in_err-right.ensures)

pub returns : goal.returns
unfolding argument
returns c =
    let l = c.in_ok-left.ensures in
    let r = c.in_ok-right.ensures in (
      r.2.bytes.within,
      l.0,
      r.0,
      expr-spans l.2,
      expr-spans r.2,
      λ next. after _ l.1 ∙ after _ r.1,
      counted-on (counted-on {count = 0} (omega arith, omega arith) l.2 l.3 l.4) r.2 r.3 r.4,
    )
