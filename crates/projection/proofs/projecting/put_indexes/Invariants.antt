-- `put_indexes`: those passed are in the plan.
use Rattle.projection.proofs.ProjectionLaws.{Putting}
use Rattle.projection.proofs.projecting.put_indexes.Given as goal

abbrev pub invariant-loop-number : goal.invariant-loop-number
invariant-loop-number l =
    Putting l.row l.initial.plan l.plan l.number-index
