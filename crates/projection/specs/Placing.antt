-- Request 7 of document 02: places put into the numbers of child indexes. (Ours.)
use Rattle.std.specs.Prelude.{ℕ, ◌+◌, ◌-◌, ◌/◌, ◌%◌, ◌≡◌, Bool, true, false, List, map, eqb, if◌then◌else◌}
use Rattle.definitions.specs.Words.Basics.{all}
use Rattle.definitions.specs.Filter.Project.{place_in, is_place, or_zero}

-- Whether a number's child index goes by the side of a number.
abbrev pub goes_by : (side number : ℕ) → Bool
goes_by side number = eqb (number / 65536 % 4) side

-- Whether the list of that side has it; one of another side asks for nothing.
unfoldable pub has_number : (side : ℕ) → (items : List ℕ) → (number : ℕ) → Bool
has_number side items number = if goes_by side number then is_place (place_in items (number % 65536)) else true

-- The number with its place there; one of another side stays.
unfoldable pub placed_number : (side : ℕ) → (items : List ℕ) → (number : ℕ) → ℕ
placed_number side items number =
    if goes_by side number then number - number % 65536 + or_zero (place_in items (number % 65536)) else number

-- The list has every number, and they were changed; or it lacks one.
abbrev pub PlacedIs : (side : ℕ) (items : List ℕ) (before after : List ℕ) → Bool → Type 0
PlacedIs side items before after true = (all (has_number side items) before ≡ true) × (after ≡ map (placed_number side items) before)
PlacedIs side items before after false = all (has_number side items) before ≡ false
