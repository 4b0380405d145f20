-- `is_allowed`: each kind has its bit.
use mathlib.Core.Path.{◌∙◌}
use borrow.Author.Tests.{ne_eqb}
use Rattle.leaf_matching.proofs.AllowLaws.{relation-allowed, distance-allowed, knn-not-allowed, knn-allowed}
use Rattle.leaf_matching.proofs.allowing.is_allowed.Goals as goal

pub returns-in-Relation : goal.returns-in-Relation
returns-in-Relation c =
    λ change s q at. relation-allowed _ change s q (rw c.in-Relation.is at at)

pub returns-in-Distance : goal.returns-in-Distance
returns-in-Distance c =
    λ change s q at. distance-allowed _ change s q (rw c.in-Distance.is at at)

pub returns-then-settings-eq1 : goal.returns-then-settings-eq1
returns-then-settings-eq1 c =
    λ change s q at. knn-allowed _ c.if-settings-eq1.true change s q (rw c.in-KNearestNeighbors.is at at)

pub returns-else-settings-eq1 : goal.returns-else-settings-eq1
returns-else-settings-eq1 c =
    λ change s q at. ne_eqb _ 1 c.if-settings-eq1.false
    ∙ knn-not-allowed _ c.if-settings-eq1.false change s q (rw c.in-KNearestNeighbors.is at at)
