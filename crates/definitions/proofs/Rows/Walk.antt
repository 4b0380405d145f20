-- What one walk remembers and its length hold by computation.
use mathlib.Core.Path.{refl}
use Rattle.definitions.specs.Rows.Walk.{WalkRows}
use Rattle.definitions.proofs.Everything.{everything}

pub walk-rows-hold : WalkRows
unfolding everything
walk-rows-hold = record {
  nothing_yet = refl;
  first-other = refl;
  at-knn = refl;
  one-leaf = refl;
  worked = refl;
  all-of-them = refl;
  knn-first = refl;
  knn-second = refl;
  knn-on-the-right = refl;
  knn-last = refl;
  accepted-carries = refl;
  thirteen-carries = refl;
  nine-carries-0 = refl;
  ten-carries-0 = refl;
  eleven-carries-0 = refl;
  twelve-carries-0 = refl;
}
