-- What the answer about a distance's side means.
use Rattle.std.specs.Prelude.{Option, Some, None}
use Rattle.terms.specs.declared.sides.JoinSide.{JoinSide}
use Rattle.terms.specs.declared.sides.JoinSide.TheVariants as side
use Rattle.leaf_matching.specs.declared.sides.Sides.{Sides}
use Rattle.leaf_matching.specs.declared.sides.Sides.TheVariants.{NoColumns, AllOn, Mixed}

-- The side of a distance: none without columns, undefined if they differ or are mark columns.
abbrev pub distance_side : Sides → Option JoinSide
distance_side NoColumns = Some side.None
distance_side (AllOn side.Left) = Some side.Left
distance_side (AllOn side.Right) = Some side.Right
distance_side (AllOn side.None) = None
distance_side Mixed = None
