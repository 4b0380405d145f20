-- Laws of literals: what stands in their bytes, and what number or flag they are.
use Rattle.std.specs.Prelude.{if◌then◌else◌}
use Rattle.std.specs.Bool.{then_some}
use Prim.Native.Nat.{ℕ, zero, suc, ◌+◌, ◌*◌, ◌-◌, ◌/◌, ◌%◌, ◌≤◌, ◌<◌}
use native.Mathlib.Omega.{arith}
use native.Mathlib.Nat.{add-zero}
use mathlib.Core.Path.{◌≡◌, refl, sym, ap, ap₂, ◌∙◌}
use mathlib.Core.Bool.{true, false, not, ◌||◌, false≢true}
use mathlib.Core.List.{List, [], ◌∷◌}
use mathlib.Core.Logic.{◌⊎◌, inl, inr, ⊎_elim}
use mathlib.Core.Option.{Option, none, some, some-ne-none}
use lib.ListN.{length, get_or}
use lib.IntN.{ℤ, pos, negsuc, nat_abs}
use lib.Signed.{lt_z}
use lib.Dec.{eqb}
use borrow.Author.Tests.{le-leb, lt-leb, ne_eqb, leb-true, ltb-true, ltb-false}
use Rattle.definitions.specs.Words.Basics.{given◌then◌else◌, big_endian}
use Rattle.definitions.specs.Words.Expression.{Expr, column, literal, and, binary, call, other, field}
use Rattle.definitions.specs.Bytes.Encode.{expr_bytes}
use Rattle.definitions.specs.Words.Literals.{signed, literal_in_range, u32, number_u32, only_k, number_bool}
use Rattle.definitions.specs.Bytes.Readers.{number, number_after}
use Rattle.definitions.specs.Bytes.Decode.{Columns}
use Rattle.definitions.specs.Filter.Match.{literal_u32, literal_k, literal_bool}
use Rattle.theorems.proofs.ReaderLaws.{same_read}
use Rattle.theorems.proofs.RoundTrip.{number-reads}
use Rattle.theorems.proofs.KLaws.{is-k, zero-no-k}
use Rattle.expression.specs.Places.{Holds}
use Rattle.expression.specs.Nodes.{head_bytes, kind_of, Stands}
use Rattle.expression.proofs.Placed.{byte_at, next}
use Rattle.expression.proofs.OfKind.{a-literal}
use Rattle.expression.proofs.Standing.{head-stands, head-fits, kind-is}
use Rattle.leaf_matching.specs.Literals.{long_at, number_is}
use Rattle.sedona_query_planner.specs.Predicates.{flag}

-- ---- eight bytes

-- The number whose bytes they are.
long_of : (v : ℕ) → v < 18446744073709551616
    → ((((((((0 * 256 + v / 72057594037927936 % 256) * 256 + v / 281474976710656 % 256) * 256 + v / 1099511627776 % 256) * 256 + v /
    4294967296 % 256)
    * 256 + v / 16777216 % 256) * 256 + v / 65536 % 256) * 256 + v / 256 % 256) * 256 + v / 1 % 256) ≡ v
unfolding number number_after big_endian
long_of v b = (same_read _ v 0 0 [] [] (number-reads 8 v 0 [] b)).0

pub long-is : {s : List ℕ} {at v : ℕ} → Holds s at (big_endian 8 v) → v < 18446744073709551616 → long_at s at ≡ v
unfolding big_endian
long-is {s} {at} {v} h b =
    let b0 : get_or s at 0 ≡ v / 72057594037927936 % 256 = ap (λ (p : ℕ). get_or s p 0) (sym (add-zero at)) ∙ byte_at h 0 (omega arith) in
    let b1 : get_or s (at + 1) 0 ≡ v / 281474976710656 % 256 = byte_at h 1 (omega arith) in
    let b2 : get_or s (at + 2) 0 ≡ v / 1099511627776 % 256 = byte_at h 2 (omega arith) in
    let b3 : get_or s (at + 2 + 1) 0 ≡ v / 4294967296 % 256 = ap (λ (p : ℕ). get_or s p 0) (omega arith) ∙ byte_at h 3 (omega arith) in
    let b4 : get_or s (at + 4) 0 ≡ v / 16777216 % 256 = byte_at h 4 (omega arith) in
    let b5 : get_or s (at + 4 + 1) 0 ≡ v / 65536 % 256 = ap (λ (p : ℕ). get_or s p 0) (omega arith) ∙ byte_at h 5 (omega arith) in
    let b6 : get_or s (at + 6) 0 ≡ v / 256 % 256 = byte_at h 6 (omega arith) in
    let b7 : get_or s (at + 6 + 1) 0 ≡ v / 1 % 256 = ap (λ (p : ℕ). get_or s p 0) (omega arith) ∙ byte_at h 7 (omega arith) in
    omega (arith, long_of v b)

-- ---- numbers of 32 bits

pub u32-few : (n : ℕ) → n ≤ 4294967295 → some n ≡ u32 (pos n)
unfolding u32
u32-few n few = rw (le-leb n 4294967295 few) refl

pub u32-many : (n : ℕ) → 4294967295 < n → none ≡ u32 (pos n)
unfolding u32
u32-many n many = rw (lt-leb n 4294967295 many) refl

-- A number with a sign is one of them, is below 0, or is more than the greatest.
pub u32-of-signed : (z : ℤ) → lt_z z (pos 0) ≡ false → lt_z (pos 4294967295) z ≡ false → some (nat_abs z) ≡ u32 z
u32-of-signed (pos n) low high = u32-few n (ltb-false 4294967295 n high)
u32-of-signed (negsuc n) low high = absurd (false≢true (sym low))

pub u32-negative : (z : ℤ) → lt_z z (pos 0) ≡ true → none ≡ u32 z
unfolding u32
u32-negative (pos n) low = absurd (omega (arith, ltb-true n 0 low))
u32-negative (negsuc n) low = refl

pub u32-great : (z : ℤ) → lt_z (pos 4294967295) z ≡ true → none ≡ u32 z
u32-great (pos n) high = u32-many n (ltb-true 4294967295 n high)
u32-great (negsuc n) high = absurd (false≢true high)

-- ---- by type

pub number-below : (type v : ℕ) → type < 2 → none ≡ number_u32 type v
unfolding number_u32
number-below zero v h = refl
number-below (suc zero) v h = refl
number-below (suc (suc n)) v h = absurd (omega arith)

pub number-signed : (type v : ℕ) → 2 ≤ type → type < 4 → u32 (signed v) ≡ number_u32 type v
unfolding number_u32
number-signed zero v low high = absurd (omega arith)
number-signed (suc zero) v low high = absurd (omega arith)
number-signed (suc (suc zero)) v low high = refl
number-signed (suc (suc (suc zero))) v low high = refl
number-signed (suc (suc (suc (suc n)))) v low high = absurd (omega arith)

pub number-unsigned : (type v : ℕ) → 4 ≤ type → type < 6 → u32 (pos v) ≡ number_u32 type v
unfolding number_u32
number-unsigned type v low high =
    rw (ne_eqb type 2 (λ e. omega arith), ne_eqb type 3 (λ e. omega arith)) (four-or-five (type - 4) type (omega arith) (omega arith))
  where
    four-or-five : (n type : ℕ) → type ≡ 4 + n → n < 2 → u32 (pos v) ≡ (if eqb type 4 || eqb type 5 then u32 (pos v) else none)
    four-or-five zero type e h = rw e
    four-or-five (suc zero) type e h = rw e
    four-or-five (suc (suc n)) type e h = absurd (omega arith)

pub number-above : (type v : ℕ) → 6 ≤ type → none ≡ number_u32 type v
unfolding number_u32
number-above type v h =
    rw (
      ne_eqb type 2 (λ e. omega arith),
      ne_eqb type 3 (λ e. omega arith),
      ne_eqb type 4 (λ e. omega arith),
      ne_eqb type 5 (λ e. omega arith),
    )

pub flag-is : (v : ℕ) → v ≤ 1 → some (flag (eqb v 1)) ≡ number_bool 1 v
unfolding number_bool
flag-is zero h = refl
flag-is (suc zero) h = refl
flag-is (suc (suc n)) h = absurd (omega arith)

pub no_flag : (type v : ℕ) → (type ≡ 1 → ⊥) → none ≡ number_bool type v
unfolding number_bool
no_flag type v n = rw (ne_eqb type 1 n)

-- ---- a literal at a place

-- A literal has ten bytes, and any other node is neither a number nor a flag.
literal-or-not : (t : Expr) → ((kind_of t ≡ 1) × (length (expr_bytes t) ≡ 10)) ⊎ ((none ≡ literal_u32 t) × (none ≡ literal_bool t))
unfolding kind_of expr_bytes big_endian literal_u32 literal_bool
literal-or-not (column i g) = inr (refl, refl)
literal-or-not (literal y v) = inl (refl, refl)
literal-or-not (and l r) = inr (refl, refl)
literal-or-not (binary o l r) = inr (refl, refl)
literal-or-not (call name args) = inr (refl, refl)
literal-or-not (other g cs) = inr (refl, refl)
literal-or-not (field b g) = inr (refl, refl)

-- What is read of a number that may be a k.
pub k-of : (t : Expr) (n : Option ℕ) → n ≡ literal_u32 t → (given n then only_k else none) ≡ literal_k t
unfolding literal_k
k-of t n e = ap (λ (m : Option ℕ). given m then only_k else none) e

pub k-kept : (k : ℕ) → k < 4294967296 → number_is (then_some (not (eqb k 0)) k) ≡ only_k k
unfolding only_k
k-kept zero few = rw (zero-no-k 0 refl) refl
k-kept (suc k) few =
    let some : suc k ≡ 0 → ⊥ = λ e. omega arith in
    rw (is-k (suc k) some few, ne_eqb (suc k) 0 some) refl

pub k-ten : (t : Expr) (k : ℕ) → some k ≡ literal_k t → length (expr_bytes t) ≡ 10
k-ten t k e = ⊎_elim (λ w. w.1) (λ w. absurd (some-ne-none k (e ∙ sym (k-of t none w.0)))) (literal-or-not t)

pub flag-ten : (t : Expr) (k : ℕ) → some k ≡ literal_bool t → length (expr_bytes t) ≡ 10
flag-ten t k e = ⊎_elim (λ w. w.1) (λ w. absurd (some-ne-none k (e ∙ sym w.1))) (literal-or-not t)

literal-length : (type v : ℕ) → length (head_bytes (literal type v)) ≡ 10
unfolding head_bytes big_endian
literal-length type v = refl

-- What the bytes of a literal say.
pub record LiteralIs (s : List ℕ) (at : ℕ) (t : Expr) : Type 0 where
  pub tree : t ≡ literal (get_or s (at + 1) 0) (long_at s (at + 2))
  pub in_range : literal_in_range (get_or s (at + 1) 0) (long_at s (at + 2)) ≡ true
  pub fits : at + 10 ≤ length s

module _ {c : Columns} {s : List ℕ} {at : ℕ} {t : Expr} where
  pub literal-is : Stands c s at t → get_or s at 0 ≡ 1 → LiteralIs s at t
  unfolding head_bytes
  literal-is stands e = a-literal (λ t. Stands c s at t → LiteralIs s at t)
      (λ type v st.
      let head : Holds s at (1 ∷ type ∷ big_endian 8 v) = head-stands st in
      let kind : get_or s (at + 1) 0 ≡ type = byte_at head 1 (omega arith) in
      let bytes : long_at s (at + 2) ≡ v = long-is (next (next head (at + 1) refl) (at + 2) (omega arith)) st.in_range.1 in
      record {
        tree = ap₂ literal (sym kind) (sym bytes);
        in_range = ap₂ literal_in_range kind bytes ∙ st.in_range.2;
        fits = omega (arith, head-fits st, literal-length type v);
      }) t (kind-is stands ∙ e) stands

  -- Another node is no literal.
  pub no-literal : Stands c s at t → (get_or s at 0 ≡ 1 → ⊥) → (none ≡ literal_u32 t) × (none ≡ literal_bool t)
  no-literal stands n = ⊎_elim (λ w. absurd (n (sym (kind-is stands) ∙ w.0))) (λ w. w) (literal-or-not t)

  -- So its number and its flag are those of its type and its eight bytes.
  pub literal-number : Stands c s at t → get_or s at 0 ≡ 1 → (n : Option ℕ) → n ≡ number_u32 (get_or s (at + 1) 0) (long_at s (at + 2))
      → n ≡ literal_u32 t
  unfolding literal_u32
  literal-number stands e n is = is ∙ ap literal_u32 (sym (literal-is stands e).tree)

  pub literal-flag : Stands c s at t → get_or s at 0 ≡ 1 → (n : Option ℕ) → n ≡ number_bool (get_or s (at + 1) 0) (long_at s (at + 2))
      → n ≡ literal_bool t
  unfolding literal_bool
  literal-flag stands e n is = is ∙ ap literal_bool (sym (literal-is stands e).tree)

  -- A Boolean is 0 or 1.
  pub flag_small : Stands c s at t → get_or s at 0 ≡ 1 → get_or s (at + 1) 0 ≡ 1 → long_at s (at + 2) ≤ 1
  unfolding literal_in_range
  flag_small stands e f =
      leb-true (long_at s (at + 2)) 1 (sym (ap (λ (y : ℕ). literal_in_range y (long_at s (at + 2))) f) ∙ (literal-is stands e).in_range)
