-- A length, and minus a refusal's number, as numbers of 64 bits with a sign.
use Prim.Native.Nat.{ℕ, zero, suc, ◌^◌, ◌<◌}
use native.Mathlib.Omega.{arith}
use mathlib.Core.Path.{◌≡◌, ◌∙◌}
use lib.IntN.{ℤ, pos, neg_ℤ, ◌-ℤ◌, +ℤ_idl}
use lib.Signed.{mag}
use mir.Syntax.{w64}
use mir.Val.{SFits, to_z, of_z}
use mir.Facts.{to_z-of_z}
use mir.ValLaws.{to_z_pos}

pub number-is : (n : ℕ) → n < 2 ^ 63 → to_z w64 n ≡ pos n
number-is n few = to_z_pos w64 n few

pub minus_is : (k : ℕ) → k < 4294967296 → pos 0 -ℤ to_z w64 k ≡ neg_ℤ (pos k)
minus_is k few = rw (number-is k (omega arith)) (+ℤ_idl (neg_ℤ (pos k)))

pub minus-fits : (k : ℕ) → k < 4294967296 → SFits w64 (neg_ℤ (pos k))
minus-fits zero few = record { sfits = omega arith }
minus-fits (suc k) few = record { sfits = omega arith }

-- A number that was given is read back from its 64 bits.
pub given_back : (z x : ℤ) → mag z < 2 ^ 63 → z ≡ x → to_z w64 (of_z w64 z) ≡ x
given_back z x fits e = to_z-of_z {w = w64} {z = z} (record { sfits = fits }) ∙ e
