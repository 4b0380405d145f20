-- Row 9 of 01's ten, which says what pruning keeps, holds by computation; the others stand in `theorems`.
use mathlib.Core.Path.{refl}
use Rattle.definitions.specs.Rows.Ten.{RowNine}
use Rattle.definitions.proofs.Everything.{everything}

pub row-nine-holds : RowNine
unfolding everything
row-nine-holds = refl
