-- Child indexes put at their places one by one, and by the spots that their numbers say.
use Prim.Native.Nat.{ℕ, ◌+◌, ◌/◌, ◌%◌}
use native.Mathlib.Omega.{arith}
use mathlib.Core.Path.{◌≡◌, refl, sym, ap, ap₂, ◌∙◌}
use mathlib.Core.List.{List, [], ◌∷◌, ◌++◌, append_assoc, map}
use lib.ListN.{length, drop, length-append}
use lib.Seq.{take_at, drop_at}
use Rattle.definitions.specs.Words.Basics.{big_endian}
use Rattle.projection.specs.Spots.{Spot, spot_number}
use Rattle.projection.specs.Patches.{put_at, patched}
use Rattle.projection.proofs.SoundSpots.{AllSound, nothing, also, number-place, number-child}

pub patched-append : (x y s : List ℕ) → patched (x ++ y) s ≡ patched y (patched x s)
unfolding patched
patched-append [] y s = refl
patched-append (n ∷ x) y s = patched-append x y (put_at (n / 262144) (big_endian 2 (n % 65536)) s)

-- ---- by spots

unfoldable pub patched_by : (es : List Spot) (s : List ℕ) → List ℕ
patched_by [] s = s
patched_by (e ∷ es) s = patched_by es (put_at e.at (big_endian 2 e.child) s)

pub numbers-patch : {end : ℕ} {es : List Spot} → AllSound end es → (s : List ℕ) → patched (map spot_number es) s ≡ patched_by es s
unfolding patched patched_by
numbers-patch nothing s = refl
numbers-patch (also {es} e inside short rest) s =
    numbers-patch rest (put_at (spot_number e / 262144) (big_endian 2 (spot_number e % 65536)) s)
    ∙ ap₂ (λ (w n : ℕ). patched_by es (put_at w (big_endian 2 n) s)) (number-place e short) (number-child e short)

pub by_append : (x y : List Spot) (s : List ℕ) → patched_by (x ++ y) s ≡ patched_by y (patched_by x s)
unfolding patched_by
by_append [] y s = refl
by_append (e ∷ x) y s = by_append x y (put_at e.at (big_endian 2 e.child) s)

-- Bytes put in place of as many.
pub put-over : (w : ℕ) (pre x y post : List ℕ) → length pre ≡ w → length x ≡ length y → put_at w y (pre ++ (x ++ post)) ≡ pre ++ (y ++ post)
put-over w pre x y post size same =
    ap₂ (λ (a b : List ℕ). a ++ (y ++ b)) (take_at pre (x ++ post) w size)
    (ap (drop (w + length y)) (sym (append_assoc pre x post))
    ∙ drop_at (pre ++ x) post (w + length y) (simp length-append (omega arith)))
