-- Masks of names: a bit for each name of the table, lowest first.
use Rattle.std.specs.Prelude.{if◌then◌else◌, cond, Some, None}
use Rattle.std.specs.List.{position, position_or_len}
use Rattle.std.proofs.lemmas.Bool.{or_parts}
use Prim.Native.Nat.{ℕ, suc, ◌+◌, ◌*◌, ◌/◌, ◌%◌, ◌^◌, ◌≤◌, ◌<◌, max}
use native.Mathlib.Nat.{pow-suc, mod-eq_of_lt}
use native.Mathlib.Omega.{arith}
use mathlib.Core.Path.{◌≡◌, refl, sym, ap, ap₂, ◌∙◌}
use mathlib.Core.Bool.{Bool, true, false, ◌&&◌, ◌||◌, not, or-false, or_assoc}
use mathlib.Core.List.{List, [], ◌∷◌, ◌++◌, map}
use lib.ListN.{length, length-map}
use denote.Bor.{Bor}
use lib.Dec.{eqb, ltb}
use lib.Bits.{bit_or, or_step}
use lib.Pow.{pow-lt}
use borrow.Author.Tests.{ltb-true, ltb-false, eqb-true, eqb-false, eq-eqb, ne_eqb}
use Rattle.definitions.specs.Words.Basics.{same_name, any}
use Rattle.definitions.specs.Filter.Names.{mask}
use Rattle.logical_filter.specs.Logicals.{spellings, apart}
use Rattle.theorems.proofs.Requests.{same-name}

-- ---- two lists of names

any_append : {A : Type 0} (f : A → Bool) (xs ys : List A) → any f (xs ++ ys) ≡ any f xs || any f ys
unfolding any
any_append f [] ys = refl
any_append f (x ∷ xs) ys = ap (λ (t : Bool). f x || t) (any_append f xs ys) ∙ sym (or_assoc (f x) (any f xs) (any f ys))

abbrev digit : Bool → ℕ
digit t = if t then 1 else 0

half : (t : Bool) (m : ℕ) → (digit t + 2 * m) / 2 ≡ m
half true m = omega arith
half false m = omega arith

odd : (t : Bool) (m : ℕ) → (digit t + 2 * m) % 2 ≡ digit t
odd true m = omega arith
odd false m = omega arith

either-digit : (s t : Bool) → max (digit s) (digit t) ≡ digit (s || t)
either-digit true true = refl
either-digit true false = refl
either-digit false true = refl
either-digit false false = refl

or_digits : (s t : Bool) (m n : ℕ) → bit_or (digit s + 2 * m) (digit t + 2 * n) ≡ digit (s || t) + 2 * bit_or m n
or_digits s t m n =
    or_step (digit s + 2 * m) (digit t + 2 * n)
    ∙ ap₂ (λ (a b : ℕ). a * 2 + b) (ap₂ bit_or (half s m) (half t n)) (ap₂ max (odd s m) (odd t n) ∙ either-digit s t)
    ∙ omega arith

pub mask_append : (names xs ys : List (List ℕ)) → mask names (xs ++ ys) ≡ bit_or (mask names xs) (mask names ys)
unfolding mask
mask_append [] xs ys = refl
mask_append (name ∷ names) xs ys =
    ap₂ (λ (t : Bool) (m : ℕ). digit t + 2 * m) (any_append (same_name name) xs ys) (mask_append names xs ys)
    ∙ sym (or_digits (any (same_name name) xs) (any (same_name name) ys) (mask names xs) (mask names ys))

-- ---- the place of a name

first-map : {A B : Type 0} (f : A → B) (p : B → Bool) (xs : List A)
    → position_or_len (λ x. p (f x)) xs ≡ position_or_len p (map f xs)
first-map f p [] = refl
first-map f p (x ∷ xs) = ap (λ (n : ℕ). cond (not (p (f x))) (1 + n) 0) (first-map f p xs)

pub position-map : {A B : Type 0} (f : A → B) (p : B → Bool) (xs : List A) → position (λ x. p (f x)) xs ≡ position p (map f xs)
position-map f p xs =
    ap₂ (λ (k n : ℕ). cond (ltb k n) (Some k) None) (first-map f p xs) (sym (length-map xs f))

-- ---- one name

eqb-sym : (a b : ℕ) (t : Bool) → eqb a b ≡ t → eqb b a ≡ t
eqb-sym a b true e = eq-eqb b a (sym (eqb-true a b e))
eqb-sym a b false e = ne_eqb b a (λ f. eqb-false a b e (sym f))

pub same-sym : (a b : List ℕ) → same_name a b ≡ same_name b a
unfolding same_name
same-sym [] [] = refl
same-sym [] (y ∷ b) = refl
same-sym (x ∷ a) [] = refl
same-sym (x ∷ a) (y ∷ b) = ap₂ ◌&&◌ (sym (eqb-sym x y (eqb x y) refl)) (same-sym a b)

first-apart : (t u : Bool) → not t && u ≡ true → (t ≡ false) × (u ≡ true)
first-apart true u e = absurd (let z : ◌≡◌ {A = ℕ} 0 1 = ap (λ (t : Bool). if t then 1 else 0) e in omega arith)
first-apart false u e = (refl, e)

-- What the first name adds to a position, and to a bit.
past_first : (same : Bool) (later : Bool) (n p : ℕ) → (n ≤ p → later ≡ false) → suc n ≤ cond (not same) (1 + p) 0 → same || later ≡ false
past_first true later n p ih h = absurd (omega arith)
past_first false later n p ih h = ih (omega arith)

pow-one : (p : ℕ) → 2 ^ (1 + p) ≡ 2 ^ p * 2
pow-one p = let e : 1 + p ≡ suc p = omega arith in ap (λ (n : ℕ). 2 ^ n) e ∙ pow-suc 2 p

bit-first : (same : Bool) (n p m : ℕ) → (same ≡ true → m ≡ 0) → (p < n → 2 ^ p ≡ m) → cond (not same) (1 + p) 0 < suc n
    → 2 ^ cond (not same) (1 + p) 0 ≡ digit same + 2 * m
bit-first true n p m none ih h = omega (arith, none refl)
bit-first false n p m none ih h = pow-one p ∙ omega (arith, ih (omega arith))

module _ (x : List ℕ) where
  one : (name : List ℕ) (names : List (List ℕ)) (t : Bool) → same_name x name ≡ t
      → mask (name ∷ names) (x ∷ []) ≡ digit t + 2 * mask names (x ∷ [])
  unfolding mask any
  one name names t e = ap (λ (t : Bool). digit t + 2 * mask names (x ∷ [])) (or-false (same_name name x) ∙ same-sym name x ∙ e)

  none : (names : List (List ℕ)) → any (same_name x) names ≡ false → mask names (x ∷ []) ≡ 0
  unfolding any mask
  none [] e = refl
  none (name ∷ names) e =
      let f = or_parts (same_name x name) (any (same_name x) names) e in
      one name names false f.0 ∙ omega (arith, none names f.1)

  pub unnamed-bit : (names : List (List ℕ)) → any (same_name x) names ≡ false → 0 ≡ mask names (x ∷ [])
  unnamed-bit names e = sym (none names e)

  missing : (names : List (List ℕ)) → length names ≤ position_or_len (same_name x) names → any (same_name x) names ≡ false
  unfolding any
  missing [] h = refl
  missing (name ∷ names) h =
      past_first (same_name x name) (any (same_name x) names) (length names) (position_or_len (same_name x) names) (missing names) h

  bit : (names : List (List ℕ)) → apart names ≡ true → position_or_len (same_name x) names < length names
      → 2 ^ position_or_len (same_name x) names ≡ mask names (x ∷ [])
  unfolding apart
  bit [] e h = absurd (omega arith)
  bit (name ∷ names) e h =
      let f = first-apart (any (same_name name) names) (apart names) e in
      bit-first (same_name x name) (length names) (position_or_len (same_name x) names) (mask names (x ∷ []))
      (λ same. none names (ap (λ (n : List ℕ). any (same_name n) names) (same-name x name same) ∙ f.0)) (bit names f.1) h
      ∙ sym (one name names (same_name x name) refl)

  -- A name that is none of those at these references has no bit, and one that is has that of its place.
  module _ (names : List (Bor (List ℕ))) where
    among : position (λ name. same_name x name.now) names ≡ position (same_name x) (spellings names)
    among = position-map (λ name. name.now) (same_name x) names

    pub no-bit : None ≡ position (λ name. same_name x name.now) names → 0 ≡ mask (spellings names) (x ∷ [])
    no-bit h = sym (none (spellings names) (missing (spellings names) (beyond _ _ (h ∙ among))))
      where
        beyond : (p n : ℕ) → None ≡ cond (ltb p n) (Some p) None → n ≤ p
        beyond p n e = by-test (ltb p n) refl e where
          by-test : (t : Bool) → ltb p n ≡ t → None ≡ cond t (Some p) None → n ≤ p
          by-test true u e = cc
          by-test false u e = ltb-false p n u

    pub bit-at : {i : ℕ} → apart (spellings names) ≡ true → Some i ≡ position (λ name. same_name x name.now) names
        → (i < length names) × (2 ^ i ≡ mask (spellings names) (x ∷ []))
    bit-at {i} e h = at-place _ (length (spellings names)) (length-map names (λ name. name.now)) (bit (spellings names) e) (h ∙ among) where
      at-place : (p n : ℕ) → n ≡ length names → (p < n → 2 ^ p ≡ mask (spellings names) (x ∷ [])) → Some i ≡ cond (ltb p n) (Some p) None
          → (i < length names) × (2 ^ i ≡ mask (spellings names) (x ∷ []))
      at-place p n size is e = by-test (ltb p n) refl e where
        by-test : (t : Bool) → ltb p n ≡ t → Some i ≡ cond t (Some p) None → (i < length names) × (2 ^ i ≡ mask (spellings names) (x ∷ []))
        by-test true u e =
            let same : i ≡ p = cc in
            rw (same, ← size) (ltb-true p n u, is (ltb-true p n u))
        by-test false u e = cc

-- A bit below the seventeenth is kept by 16 bits.
pub kept : (i : ℕ) → i < 16 → (1 * 2 ^ i) % 65536 ≡ 2 ^ i
kept i h = ap (λ (n : ℕ). n % 65536) (omega arith) ∙ mod-eq_of_lt (pow-lt {i = i} {j = 16} (omega arith))
