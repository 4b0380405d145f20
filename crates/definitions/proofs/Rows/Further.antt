-- Our rows beside 01's ten hold by computation.
use mathlib.Core.Path.{refl}
use Rattle.definitions.specs.Rows.Further.{FurtherRows}
use Rattle.definitions.proofs.Everything.{everything}

pub further-rows-hold : FurtherRows
unfolding everything
further-rows-hold = record {
  first_taken = refl;
  second-stays = refl;
  knn-exchanged = refl;
  exchange-kept = refl;
  own-matcher = refl;
  indexes-held = refl;
  and-false = refl;
  and-true = refl;
  and-unknown = refl;
}
