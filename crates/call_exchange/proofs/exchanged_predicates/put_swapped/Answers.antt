-- `put_swapped`: by what sort of predicate it is.
use native.Mathlib.Omega.{arith}
use Rattle.call_exchange.proofs.PredicateLaws.{knn-room, knn-turned}
use Rattle.call_exchange.proofs.exchanged_predicates.put_swapped.Goals as goal

pub bounds-plan-8 : goal.bounds-plan-8
bounds-plan-8 c =
    omega (arith, knn-room c.in-KNearestNeighbors.p (rw c.in-KNearestNeighbors.is at c.requires))

pub returns-in-KNearestNeighbors : goal.returns-in-KNearestNeighbors
returns-in-KNearestNeighbors c =
    rw c.in-KNearestNeighbors.is (λ P h. knn-turned c.in-KNearestNeighbors.p P h c.from.ensures)
