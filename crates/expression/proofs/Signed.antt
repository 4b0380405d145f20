-- Two's complement: eight bytes as a number with a sign, and the conversions that tell whether a number has 32 bits.
use Prim.Native.Nat.{ℕ, ◌≤◌}
use native.Mathlib.Omega.{arith}
use mathlib.Core.Path.{◌≡◌, refl, sym, ap}
use mathlib.Core.Bool.{Bool, true, false}
use lib.Dec.{leb, ltb}
use lib.IntN.{ℤ, pos, negsuc}
use mir.Syntax.{w32, w64}
use mir.Val.{SFits, to_z}
use borrow.Author.Tests.{lt-ltb, le-ltb, le-leb, leb-true, ltb-true, ltb-false}
use Rattle.std.specs.Prelude.{Result, Ok, Err, OkIff, is_ok}
use Rattle.definitions.specs.Words.Literals.{signed, is_int32}

by_half : (n : ℕ) (t : Bool) → ltb n 9223372036854775808 ≡ t → to_z w64 n ≡ signed n
unfolding signed
by_half n true e = rw (lt-ltb n 9223372036854775808 (ltb-true n 9223372036854775808 e))
by_half n false e = rw (le-ltb n 9223372036854775808 (ltb-false n 9223372036854775808 e)) (ap negsuc (omega arith))

pub twos_complement : (n : ℕ) → to_z w64 n ≡ signed n
twos_complement n = by_half n (ltb n 9223372036854775808) refl

-- ---- conversions that succeed where the number fits

at-most : (n m : ℕ) (t : Bool) → leb n m ≡ t → (n ≤ m → ⊥) → false ≡ leb n m
at-most n m true e h = absurd (h (leb-true n m e))
at-most n m false e h = sym e

pub converts-int32 : {E : Type 0} (r : Result ℤ E) (z : ℤ) → OkIff r (SFits w32 z) z → is_ok r ≡ is_int32 z
unfolding is_int32
converts-int32 (Ok x) (pos n) h = sym (le-leb n 2147483647 (omega (arith, h.0.sfits)))
converts-int32 (Ok x) (negsuc n) h = sym (le-leb n 2147483647 (omega (arith, h.0.sfits)))
converts-int32 (Err e) (pos n) h = at-most n 2147483647 (leb n 2147483647) refl (λ low. h (record { sfits = omega arith }))
converts-int32 (Err e) (negsuc n) h = at-most n 2147483647 (leb n 2147483647) refl (λ low. h (record { sfits = omega arith }))
