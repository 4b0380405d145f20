-- The first byte says which of the two it is to be read as.
use Rattle.filter_tree.specs.Trees.{Recorded}
use Rattle.plan_reader.proofs.Extractions.{frame-plan, no-frame}
use Rattle.plan_reader.proofs.held_plans.held_plan_in.Goals as goal

pub returns-in-Ok : goal.returns-in-Ok
returns-in-Ok c =
    frame-plan c.args.s.now (Recorded c.physical_frame_in.new.row) c.if-s-ne1.false c.in-Ok.ensures

pub returns-in-Err : goal.returns-in-Err
returns-in-Err c =
    no-frame c.args.s.now (Recorded c.physical_frame_in.new.row) c.if-s-ne1.false _ c.in-Err.ensures
