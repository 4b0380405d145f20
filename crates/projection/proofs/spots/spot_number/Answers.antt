-- `spot_number`: 14 bits, two and 16 fit 32.
use native.Mathlib.Omega.{arith}
use Rattle.terms.specs.Sides.{join_side}
use Rattle.projection.proofs.SpotLaws.{side-small}
use Rattle.projection.proofs.spots.spot_number.Goals as goal

pub overflow_cast-result : goal.overflow_cast-result
overflow_cast-result c =
    omega (arith, c.requires, c.from.ensures, c.from-2.ensures, side-small (join_side c.args.side))
