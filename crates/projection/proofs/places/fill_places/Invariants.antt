-- `fill_places`: the chains have the items passed.
use Rattle.projection.specs.Chains.{Chained}
use Rattle.projection.proofs.places.fill_places.Given as goal

abbrev pub invariant-loop-k : goal.invariant-loop-k
invariant-loop-k l =
    Chained l.items l.heads l.nexts l.sought l.k
