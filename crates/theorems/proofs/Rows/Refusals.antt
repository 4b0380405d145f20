-- The table of refusals holds by computation, so no definition is vacuous.
use mathlib.Core.Path.{refl}
use Rattle.definitions.specs.Rows.Refusals.{RefusalTable}
use Rattle.definitions.proofs.Everything.{everything}

pub refusals-hold : RefusalTable
unfolding everything
refusals-hold = record {
  physical = refl;
  buffer = refl;
  arity-before-buffer = refl;
  logical = refl;
  bad-plan = refl;
  other-bytes = refl;
  no-plan = refl;
  calls = refl;
  no-match = refl;
  long-line = refl;
  program = refl;
}
