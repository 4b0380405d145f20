-- What the answers about literals mean.
use Rattle.std.specs.Prelude.{ℕ, ◌+◌, ◌*◌, Bool, List, Option, Some, None}
use Rattle.std.proofs.Math.Option as optional
use Rattle.expression.specs.Places.{short_at}
use Rattle.sedona_query_planner.specs.Predicates.{flag}

-- The number in the eight bytes at a place.
abbrev pub long_at : List ℕ → ℕ → ℕ
long_at s at = ((short_at s at * 65536 + short_at s (at + 2)) * 65536 + short_at s (at + 4)) * 65536 + short_at s (at + 6)

abbrev pub number_is : Option ℕ → optional.Option ℕ
number_is (Some value) = optional.some value
number_is None = optional.none

abbrev pub flag_is : Option Bool → optional.Option ℕ
flag_is (Some value) = optional.some (flag value)
flag_is None = optional.none
