-- What is claimed of the names that the logical call counts, demand 2.
use Rattle.std.specs.Prelude.{ℕ, ◌+◌, ◌≡◌, List, [], ◌∷◌, map, replicate, if◌then◌else◌}
use Rattle.std.specs.Int.Count.{ones}
use Rattle.definitions.specs.Words.Basics.{same_name}
use Rattle.definitions.specs.Filter.Names.{spatial_names, mask, distinct}

-- How many distinct names is the count of ones of the mask.
abbrev pub NamesAreOnes : Type 0
NamesAreOnes = (names found : List (List ℕ)) → distinct names found ≡ ones (mask names found)

-- How many places of a list of names have this one.
unfoldable pub occurrences : List (List ℕ) → (name : List ℕ) → ℕ
occurrences [] name = 0
occurrences (one ∷ names) name = (if same_name one name then 1 else 0) + occurrences names name

-- The 15 names are told apart: each occurs once.
abbrev pub NamesOnce : Type 0
NamesOnce = map (occurrences spatial_names) spatial_names ≡ replicate 15 1
