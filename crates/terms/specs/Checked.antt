-- What a test of settings answers.
use Rattle.std.specs.Prelude.{◌≡◌, false, Result, Ok, Err}
use Rattle.definitions.specs.Filter.Settings.{good_settings}
use Rattle.terms.specs.Settings.{settings_of}
use Rattle.terms.specs.declared.settings.Settings.{Settings}
use Rattle.terms.specs.declared.checked.Checked.{Checked}
use Rattle.terms.specs.declared.refusals.Refusal.{Refusal}
use Rattle.terms.specs.declared.refusals.Refusal.TheVariants.{BadSettings}

-- The same settings, or 24 where they get it.
abbrev pub CheckedIs : Settings → Result Checked Refusal → Type 0
CheckedIs given (Ok checked) = checked.settings ≡ given
CheckedIs given (Err why) = (why ≡ BadSettings) × (good_settings (settings_of given) ≡ false)
