-- `put_indexes`: those passed are in the plan.
use Rattle.projection.proofs.ProjectionLaws.{putting-begins, putting-goes-on}
use Rattle.projection.proofs.projecting.put_indexes.Goals as goal

pub loop-number-init : goal.loop-number-init
loop-number-init c =
    putting-begins

pub loop-number-preserved : goal.loop-number-preserved
loop-number-preserved c =
    let call = c.put_number in
    putting-goes-on c.loop-number.invariant c.loop-number-test.true call.new.out call.auto.out call.result call.ensures
