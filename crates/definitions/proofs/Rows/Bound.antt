-- Which distances match, by the columns of their bound: by computation.
use mathlib.Core.Path.{refl}
use Rattle.definitions.specs.Claims.Values.{marked_frame}
use Rattle.definitions.specs.Rows.Bound.{BoundRows}
use Rattle.definitions.proofs.Everything.{everything}

pub bound-rows-hold : BoundRows
unfolding everything marked_frame
bound-rows-hold = record {
  of-left = refl;
  of-right = refl;
  of_none = refl;
  of-call = refl;
  of-mark = refl;
  of-marks = refl;
  of-two = refl;
  compared = refl;
  compared-none = refl;
  merged = refl;
  held-plan = refl;
  held-copied = refl;
  held-projected = refl;
}
