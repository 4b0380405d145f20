-- A k of 0 matches nothing and is held by no plan: by computation.
use mathlib.Core.Path.{refl}
use mathlib.Core.Bool.{false≢true}
use Rattle.definitions.specs.Rows.Nearest.{NearestRows}
use Rattle.definitions.proofs.Everything.{everything}

pub nearest-rows-hold : NearestRows
unfolding everything
nearest-rows-hold = record {
  zero-of-each = refl;
  zero-flagged = refl;
  minus_one = refl;
  one-flagged = refl;
  missing = refl;
  relation-taken = refl;
  later-taken = refl;
  held_one = refl;
  held-zero = refl;
  held-extract = refl;
  held-merge = refl;
  zero-not-good = λ good. false≢true good.readable.1.0;
  read-zero = refl;
}
