-- 01's matcher obeys the laws of a matcher: it is matching under the default settings.
use mathlib.Core.Path.{subst}
use Rattle.definitions.specs.Filter.Match.{match_leaf}
use Rattle.definitions.specs.Filter.Extract.{Matcher}
use Rattle.definitions.specs.Meaning.Matchers.{Lawful}
use Rattle.definitions.specs.Meaning.Values.{FairBy, Fair}
use Rattle.definitions.specs.Filter.Settings.{default_settings}
use Rattle.theorems.proofs.SettingsLaws.{settings-laws, default-good, default-match}

pub match-laws : Lawful match_leaf Fair
match-laws = subst (λ (m : Matcher). Lawful m (FairBy m)) default-match (settings-laws default_settings default-good)
