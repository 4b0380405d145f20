-- All indexable conjuncts of small frames, by computation.
use mathlib.Core.Path.{refl}
use Rattle.definitions.specs.Rows.All.{AllRows}
use Rattle.definitions.proofs.Everything.{everything}

pub all-rows-hold : AllRows
unfolding everything
all-rows-hold = record {
  knn-first = refl;
  exchanged = refl;
  nothing_left = refl;
  no-match = refl;
  rounds = refl;
  answer = refl;
  just-room = refl;
  too_short = refl;
  after_kept = refl;
  empty-frame = refl;
}
