-- Bytes at a place.
use Rattle.std.specs.Prelude.{ℕ, ◌+◌, ◌*◌, ◌-◌, ◌≤◌, ◌≡◌, List, ◌++◌, length, take, drop, get_or}

-- The bytes x stand in s at a place; `rest` is what follows them.
pub record Holds (s : List ℕ) (at : ℕ) (x : List ℕ) : Type 0 where
  pub rest : List ℕ
  pub bytes : drop at s ≡ x ++ rest
  pub within : at ≤ length s

-- The bytes x stand in s from `at` up to `end`.
pub record Between (s : List ℕ) (at end : ℕ) (x : List ℕ) : Type 0 where
  pub bytes : drop at s ≡ x ++ drop end s
  pub ends : end ≡ at + length x
  pub within : end ≤ length s

-- The number in the two bytes at a place.
abbrev pub short_at : List ℕ → ℕ → ℕ
short_at s at = get_or s at 0 * 256 + get_or s (at + 1) 0

-- The bytes from one place up to another.
unfoldable pub part : List ℕ → (at end : ℕ) → List ℕ
part s at end = take (end - at) (drop at s)
