-- `mark_sought`: the child indexes of the numbers passed have flags.
use Rattle.projection.specs.Seeking.{Marked}
use Rattle.projection.proofs.spot_places.mark_sought.Given as goal

abbrev pub invariant-loop-number : goal.invariant-loop-number
invariant-loop-number l =
    Marked l.wanted l.row l.number-index l.sought
