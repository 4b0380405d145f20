-- 24 where the settings are not good; a plan buffer shorter than n holds nothing; else the rows are as long as n asks for.
use Rattle.node_table.specs.Records.{nodes_of}
use Rattle.call_answers.proofs.Settling.{lent-settled}
use Rattle.call_extract.proofs.Settling.{by-24, long-by}
use Rattle.call_extract.proofs.call.extract_settled.Goals as goal

pub returns-in-Err : goal.returns-in-Err
returns-in-Err c =
    let bad = c.in-Err.ensures in
    rw (c.refused.ensures, bad.0) (by-24 _ _ _ _ bad.1 c.args.table)

pub returns-then-plan-n : goal.returns-then-plan-n
returns-then-plan-n c =
    let a = c.args in
    rw (c.refused-then-plan-n.ensures, ← c.in-Ok.ensures)
    (long-by _ a.n a.plan.now a.scratch.now c.in-Ok.checked.good c.if-plan-n.true a.table)

pub returns-in-Some : goal.returns-in-Some
returns-in-Some c =
    let a = c.args in
    rw (← c.in-Ok.ensures, c.in-Some.is)
    (lent-settled _ a.n a.plan.now a.scratch.now (nodes_of c.in-Some.table.now) c.in-Ok.checked.good c.extract_lent.ensures)
