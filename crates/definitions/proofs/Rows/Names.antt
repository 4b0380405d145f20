-- The mask's lowest binary digit says whether the first name is found, and its half is the other names' mask; the tables compute.
use Rattle.std.specs.Prelude.{if◌then◌else◌}
use Prim.Native.Nat.{ℕ, ◌+◌, ◌*◌}
use native.Mathlib.Omega.{arith}
use mathlib.Core.Path.{◌≡◌, refl, sym, ap, ap₂, ◌∙◌}
use mathlib.Core.Bool.{Bool, true, false}
use mathlib.Core.List.{[], ◌∷◌}
use lib.Count.{ones, ones_step}
use Rattle.definitions.specs.Words.Basics.{any, same_name}
use Rattle.definitions.specs.Filter.Names.{mask, distinct}
use Rattle.definitions.specs.Claims.Names.{NamesAreOnes, NamesOnce, occurrences}
use Rattle.definitions.specs.Rows.Names.{NameTables}
use Rattle.definitions.proofs.Everything.{everything}

lowest-digit : (found : Bool) (m : ℕ) → ones ((if found then 1 else 0) + 2 * m) ≡ (if found then 1 else 0) + ones m
lowest-digit true m = ones_step (1 + 2 * m) ∙ ap₂ ◌+◌ (omega arith) (ap ones (omega arith))
lowest-digit false m = ones_step (0 + 2 * m) ∙ ap₂ ◌+◌ (omega arith) (ap ones (omega arith))

pub names-ones : NamesAreOnes
unfolding mask distinct ones
names-ones [] found = refl
names-ones (name ∷ names) found =
    ap (λ (n : ℕ). (if any (same_name name) found then 1 else 0) + n) (names-ones names found)
    ∙ sym (lowest-digit (any (same_name name) found) (mask names found))

pub each-once : NamesOnce
unfolding everything occurrences
each-once = refl

pub tables-hold : NameTables
unfolding everything
tables-hold = record { types = refl; others = refl; bits = refl; sides = refl }
