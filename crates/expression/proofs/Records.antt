-- Numbers of two bytes, and records, at a place.
use Prim.Native.Nat.{ℕ, zero, suc, ◌+◌, ◌*◌, ◌/◌, ◌%◌, ◌<◌}
use native.Mathlib.Omega.{arith}
use native.Mathlib.Nat.{not-suc-le-zero, add-zero}
use mathlib.Core.Path.{◌≡◌, refl, ap, subst}
use mathlib.Core.List.{List, [], ◌∷◌}
use lib.ListN.{length, get_or}
use Rattle.definitions.specs.Words.Basics.{big_endian}
use Rattle.definitions.specs.Words.Expression.{Record}
use Rattle.definitions.specs.Bytes.Encode.{record_bytes, records_bytes}
use Rattle.definitions.specs.Words.References.{record_at}
use Rattle.theorems.proofs.ExchangeGood.{record-length}
use Rattle.expression.specs.Places.{Holds, short_at}
use Rattle.expression.proofs.Placed.{byte_at, front, back}

pub short-is : {s : List ℕ} {at v : ℕ} → Holds s at (big_endian 2 v) → v < 65536 → short_at s at ≡ v
unfolding big_endian
short-is {s} {at} {v} h b =
    let high : get_or s (at + 0) 0 ≡ v / 256 % 256 = byte_at h 0 (omega arith) in
    let low : get_or s (at + 1) 0 ≡ v / 1 % 256 = byte_at h 1 (omega arith) in
    omega (arith, ap (λ (p : ℕ). get_or s p 0) (add-zero at))

-- The record of an index stands five bytes on for each before it.
pub entry_at : {s : List ℕ} {rec : ℕ} (rs : List Record) → Holds s rec (records_bytes rs) → (i : ℕ) → i < length rs
    → (p : ℕ) → p ≡ rec + 5 * i → Holds s p (record_bytes (record_at rs i))
unfolding records_bytes record_at
entry_at [] h i b p e = absurd (not-suc-le-zero b)
entry_at {s} {rec} (r ∷ rs) h zero b p e =
    subst (λ (q : ℕ). Holds s q (record_bytes r)) (omega arith) (front (record_bytes r) (records_bytes rs) h)
entry_at {s} {rec} (r ∷ rs) h (suc i) b p e =
    entry_at {rec = rec + 5} rs (back (record_bytes r) (records_bytes rs) h (rec + 5) (omega (arith, record-length r))) i (omega arith) p
    (omega arith)

pub short-length : (v : ℕ) → length (big_endian 2 v) ≡ 2
unfolding big_endian
short-length v = refl
