-- The positions of leaves that were taken hold by computation.
use mathlib.Core.Path.{refl}
use Rattle.definitions.specs.Rows.Position.{PositionRows}
use Rattle.definitions.proofs.Everything.{everything}

pub position-rows-hold : PositionRows
unfolding everything
position-rows-hold = record {
  first = refl;
  second = refl;
  second-exchanged = refl;
  high-first = refl;
  read_back = refl;
  any_held = refl;
  tight-frame = refl;
  tight-extraction = refl;
}
