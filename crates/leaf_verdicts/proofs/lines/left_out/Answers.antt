-- `left_out`: each kind has its bit.
use native.Mathlib.Omega.{arith}
use mathlib.Core.Path.{◌≡◌, ap}
use mathlib.Core.Bool.{not}
use Prim.Native.Nat.{ℕ, ◌/◌, ◌%◌}
use lib.Dec.{eqb}
use Rattle.definitions.specs.Filter.Settings.{has_bit}
use Rattle.definitions.specs.Filter.Verdicts as definitions
use Rattle.leaf_verdicts.proofs.lines.left_out.Goals as goal

pub returns-in-Relation : goal.returns-in-Relation
unfolding definitions.left_out has_bit
returns-in-Relation c =
    let kinds = c.args.settings.kinds in
    rw c.in-Relation.is (ap (λ (n : ℕ). not (eqb n 1)) (let same : kinds % 2 ≡ kinds / 1 % 2 = omega arith in same))

pub returns-in-Distance : goal.returns-in-Distance
unfolding definitions.left_out has_bit
returns-in-Distance c =
    rw c.in-Distance.is

pub returns-in-Knn : goal.returns-in-Knn
unfolding definitions.left_out has_bit
returns-in-Knn c =
    rw c.in-Knn.is
