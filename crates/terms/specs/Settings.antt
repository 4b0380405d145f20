-- The definitions' settings for the code's.
use Rattle.definitions.specs.Filter.Settings as definitions
use Rattle.terms.specs.declared.settings.Settings.{Settings}

abbrev pub settings_of : Settings → definitions.Settings
settings_of s = record { kinds = s.kinds; default_k = s.default_k; greatest_k = s.greatest_k }
