-- A frame is held to the table; what begins otherwise is read without it.
use mathlib.Core.Path.{sym, ◌∙◌}
use borrow.Author.Tests.{eqb-true}
use Rattle.plan_reader.proofs.Extractions.{none-first, no-frame-held, frame-held-to, no-frame-held-to}
use Rattle.plan_reader.proofs.held_plans.held_plan_by_table.Goals as goal
use Rattle.plan_reader.proofs.held_plans.held_plan_by_table.Goals.{then-is_empty-via-then-is_empty, then-is_empty-via-else-is_empty+then-s-ne1}

pub returns-then-is_empty : goal.returns-then-is_empty
returns-then-is_empty c =
    no-frame-held c.args.table.now c.args.s.now
    (elim c.then-is_empty.branch [
      | then-is_empty-via-then-is_empty w ↦ none-first c.args.s.now (eqb-true _ 0 (sym c.is_empty.ensures ∙ w.if-is_empty.true))
      | then-is_empty-via-else-is_empty+then-s-ne1 w ↦ w.if-s-ne1.true
    ])
    c.held_plan.result c.held_plan.ensures

pub returns-in-Ok : goal.returns-in-Ok
returns-in-Ok c =
    frame-held-to c.args.table.now c.args.s.now c.if-s-ne1.false c.in-Ok.ensures

pub returns-in-Err : goal.returns-in-Err
returns-in-Err c =
    no-frame-held-to c.args.table.now c.args.s.now c.if-s-ne1.false _ c.in-Err.ensures
