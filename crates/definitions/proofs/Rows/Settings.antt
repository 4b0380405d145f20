-- What matches under settings, by computation.
use mathlib.Core.Path.{refl}
use Rattle.definitions.specs.Rows.Settings.{SettingsRows}
use Rattle.definitions.proofs.Everything.{everything}

pub settings-rows-hold : SettingsRows
unfolding everything
settings-rows-hold = record {
  none-but-relations = refl;
  none-but-distances = refl;
  none-but-knn = refl;
  all_kinds = refl;
  default-k = refl;
  own-k = refl;
  greatest-k = refl;
  above = refl;
  good = refl;
  bad = refl;
  first = refl;
  first-of-all = refl;
  walk-stops = refl;
  walk-goes-on = refl;
  walk-above = refl;
  walk-24 = refl;
}
