-- Each refusal is the definition's; a held extraction is projected.
use Rattle.node_reader.proofs.Reading.{kept}
use Rattle.node_reader.proofs.Standing.{all-bytes}
use Rattle.call_answers.proofs.Refusing.{no-room-for-n}
use Rattle.call_project.proofs.ProjectCall.{project-call, frame-held, not-held, holds_of}
use Rattle.call_project.proofs.call.project.Goals as goal

pub returns-then-plan-n : goal.returns-then-plan-n
returns-then-plan-n c =
    let a = c.args in
    no-room-for-n (project-call a.left.now a.right.now) a.n a.plan.now a.scratch.now c.if-plan-n.true

pub returns-in_err-held_plan : goal.returns-in_err-held_plan
returns-in_err-held_plan c =
    let a = c.args in
    rw (kept c.from_residual.ensures)
    (not-held a.n a.plan.now a.scratch.now a.left.now a.right.now c.if-plan-n.false c.in_err-held_plan.ensures)

pub project_held-requires : goal.project_held-requires
project_held-requires c =
    let a = c.args in
    holds_of a.n a.plan.now _ c.if-plan-n.false (all-bytes a.plan.now c.slice_known-1.given)
    (rw c.in-Extraction.is at c.in_ok-held_plan.ensures)

pub returns-in-Frame : goal.returns-in-Frame
returns-in-Frame c =
    let frame = rw c.in-Frame.is at c.in_ok-held_plan.ensures in
    let a = c.args in
    frame-held a.n a.plan.now a.scratch.now a.left.now a.right.now c.if-plan-n.false frame.0 frame.2
