-- `put_child_places`: the numbers passed were found and changed.
use Rattle.projection.proofs.PlacingLaws.{Placing}
use Rattle.projection.proofs.spot_places.put_child_places.Given as goal

abbrev pub invariant-loop-number : goal.invariant-loop-number
invariant-loop-number l =
    Placing l.wanted l.items l.initial.row l.row l.number-index
