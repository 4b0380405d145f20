-- The rows for sentences of 01 that no other table reads hold by computation.
use mathlib.Core.Path.{refl}
use Rattle.definitions.specs.Rows.Guard.{GuardRows}
use Rattle.definitions.proofs.Everything.{everything}

pub guard-rows-hold : GuardRows
unfolding everything
guard-rows-hold = record {
  types-turned = refl;
  types-exchanged = refl;
  spheroid-alone = refl;
  ties-alone = refl;
  single-flag = refl;
  int32-range = refl;
  no-plan-first = refl;
  over_first = refl;
  compared-left = refl;
  compared-right = refl;
  compared-capitals = refl;
  first-in-both = refl;
  first-without = refl;
  last_line = refl;
  last-of-two = refl;
  no-line = refl;
}
