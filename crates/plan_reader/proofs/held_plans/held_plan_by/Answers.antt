-- What the row holds is not said.
use Rattle.plan_reader.proofs.Extractions.{without-claim}
use Rattle.plan_reader.proofs.held_plans.held_plan_by.Goals as goal

pub returns : goal.returns
returns g c =
    without-claim c.args.s.now _ _ c.held_plan_in.result c.held_plan_in.ensures
