-- Request 7 of document 02: child indexes put at their places. (Ours.)
use Rattle.std.specs.Prelude.{ℕ, ◌+◌, ◌/◌, ◌%◌, ◌≤◌, ◌<◌, ◌≡◌, List, [], ◌∷◌, ◌++◌, length, take, drop, get_or}
use Rattle.definitions.specs.Words.Basics.{big_endian}

-- Bytes from a place on, the others as they were.
abbrev pub put_at : (w : ℕ) (x s : List ℕ) → List ℕ
put_at w x s = take w s ++ (x ++ drop (w + length x) s)

-- The child index of each number put at the number's place.
unfoldable pub patched : (numbers s : List ℕ) → List ℕ
patched [] s = s
patched (number ∷ numbers) s = patched numbers (put_at (number / 262144) (big_endian 2 (number % 65536)) s)

-- The numbers' places lie within the bytes.
abbrev pub PlacesWithin : (row s : List ℕ) → Type 0
PlacesWithin row s = (k : ℕ) → k < length row → get_or row k 0 / 262144 + 2 ≤ length s

-- They were put at their places.
abbrev pub PatchedBy : (row before after : List ℕ) → Type 0
PatchedBy row before after = after ≡ patched row before
