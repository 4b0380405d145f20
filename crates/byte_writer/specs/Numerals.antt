-- A number's places to a base. (Ours.)
use Rattle.std.specs.Prelude.{ℕ, zero, suc, ◌/◌, ◌%◌, ◌^◌, List, [], ◌∷◌}

-- The last `width` places of a number, the most significant first, each as it is written.
unfoldable pub places : (base : ℕ) → (sign : ℕ → ℕ) → (width : ℕ) → ℕ → List ℕ
places base sign zero v = []
places base sign (suc w) v = sign (v / base ^ w % base) ∷ places base sign w v
