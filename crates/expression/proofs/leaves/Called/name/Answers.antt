-- The name stands from `name` up to `end`.
use mathlib.Core.Path.{refl}
use Rattle.expression.specs.Places.{part}
use Rattle.expression.proofs.leaves.Called.name.Goals as goal

pub returns : goal.returns
unfolding part
returns c =
    refl
