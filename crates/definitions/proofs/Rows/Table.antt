-- Tables of small frames, and what calls do with them, hold by computation.
use mathlib.Core.Path.{refl}
use Rattle.definitions.specs.Rows.Table.{TableRows}
use Rattle.definitions.proofs.Everything.{everything}

pub table-rows-hold : TableRows
unfolding everything
table-rows-hold = record {
  worked = refl;
  prefix-order = refl;
  binary-node = refl;
  loaded = refl;
  just_enough = refl;
  short-table = refl;
  buffer-first = refl;
  merge-enough = refl;
  merge-short = refl;
  merge-kept = refl;
  merge-buffer-first = refl;
  fitting = refl;
  too_short = refl;
  other-kind = refl;
  other-start = refl;
  other-end = refl;
  before-9 = refl;
  second = refl;
  second-without = refl;
  nothing-held = refl;
}
