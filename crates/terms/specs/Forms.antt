-- Document 01's number of each form of a distance predicate.
use Rattle.std.specs.Prelude.{ℕ, ◌≡◌, ◌<◌, Result, Ok, Err}
use Rattle.terms.specs.declared.forms.DistanceForm.{DistanceForm}
use Rattle.terms.specs.declared.forms.DistanceForm.TheVariants.{Dwithin, Lt, LtEq, Gt, GtEq}
use Rattle.terms.specs.declared.refusals.Refusal.{Refusal}
use Rattle.terms.specs.declared.refusals.Refusal.TheVariants.{OutOfRange}

abbrev pub form_number : DistanceForm → ℕ
form_number Dwithin = 0
form_number Lt = 1
form_number LtEq = 2
form_number Gt = 3
form_number GtEq = 4

-- The form of a number, or 4 above the last.
abbrev pub FormIs : ℕ → Result DistanceForm Refusal → Type 0
FormIs number (Ok form) = number ≡ form_number form
FormIs number (Err why) = (4 < number) × (why ≡ OutOfRange)
