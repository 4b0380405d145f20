-- `project_held`: lists, then scratch, then the child indexes; a row has an entry for each five bytes.
use Rattle.call_project.proofs.ProjectCall.{list-long, scratch-short}
use Rattle.call_project.proofs.call.project_held.Goals as goal

pub returns-then-left-gt4096 : goal.returns-then-left-gt4096
returns-then-left-gt4096 c =
    let a = c.args in
    list-long a.n a.plan.now a.scratch.now a.left.now a.right.now c.requires c.then-left-gt4096.either

pub returns-then-scratch-n : goal.returns-then-scratch-n
returns-then-scratch-n c =
    let a = c.args in
    scratch-short a.n a.plan.now a.scratch.now a.left.now a.right.now c.requires
    (record { first = c.if-left-gt4096.false; second = c.if-right-gt4096.false }) c.if-scratch-n.true
