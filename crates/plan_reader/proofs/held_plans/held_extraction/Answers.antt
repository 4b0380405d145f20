-- No byte is the empty plan; all else is an extraction, or no good plan.
use Rattle.filter_tree.specs.Trees.{Recorded}
use Rattle.plan_reader.proofs.Extractions.{empty-plan, extraction-plan, no-extraction}
use Rattle.plan_reader.proofs.held_plans.held_extraction.Goals as goal

pub returns-then-is_empty : goal.returns-then-is_empty
returns-then-is_empty c =
    empty-plan c.args.s.now (Recorded c.args.row.now) c.is_empty.ensures c.if-is_empty.true

pub returns-in-Ok : goal.returns-in-Ok
returns-in-Ok c =
    extraction-plan c.args.s.now (Recorded c.whole_extraction.new.row) c.is_empty.ensures c.if-is_empty.false c.requires.other
    c.in-Ok.ensures

pub returns-in-Err : goal.returns-in-Err
returns-in-Err c =
    no-extraction c.args.s.now (Recorded c.whole_extraction.new.row) c.is_empty.ensures c.if-is_empty.false c.requires.other _
    c.in-Err.ensures
