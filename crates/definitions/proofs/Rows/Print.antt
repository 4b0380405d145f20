-- Printed lines of each kind, and the answers of print, hold by computation.
use mathlib.Core.Path.{refl}
use Rattle.definitions.specs.Rows.Print.{PrintRows}
use Rattle.definitions.proofs.Everything.{everything}

pub print-rows-hold : PrintRows
unfolding everything
print-rows-hold = record {
  column-line = refl;
  zero-line = refl;
  wide-line = refl;
  literal-line = refl;
  minus-line = refl;
  and-line = refl;
  binary-line = refl;
  call_line = refl;
  no_arguments = refl;
  other-line = refl;
  worked-line = refl;
  longest = refl;
  too_short = refl;
  just_enough = refl;
  byte-kept = refl;
  bad-first = refl;
  bad-end = refl;
  bad-arity = refl;
}
