-- Names are the same bytes: by length, and then byte by byte, each in small letters.
use Rattle.std.specs.Prelude.{if◌then◌else◌}
use Prim.Native.Nat.{ℕ, zero, suc, ◌+◌, ◌≤◌, ◌<◌}
use native.Mathlib.Numerals.{add-one}
use native.Mathlib.Omega.{arith}
use mathlib.Core.Path.{◌≡◌, refl, sym, ap, ◌∙◌}
use mathlib.Core.Bool.{Bool, true, false, ◌&&◌, and-false}
use mathlib.Core.List.{List, [], ◌∷◌}
use lib.ListN.{length, drop, get_or, drop_of_length-le}
use lib.Seq.{drop-cons}
use lib.Dec.{eqb, leb}
use lib.Pointwise.{pointwise}
use borrow.Author.Tests.{eq-eqb, ne_eqb, le-leb, le-ltb, lt-ltb, leb-true, leb-false}
use Rattle.std.specs.Char.{to_ascii_lowercase}
use Rattle.definitions.specs.Words.Basics.{same_name}
use Rattle.definitions.specs.Filter.Names.{lower_case}

pub by_bytes : (a b : List ℕ) → pointwise eqb a b ≡ same_name a b
unfolding same_name
by_bytes [] [] = refl
by_bytes [] (y ∷ b) = refl
by_bytes (x ∷ a) [] = refl
by_bytes (x ∷ a) (y ∷ b) = ap (λ (t : Bool). eqb x y && t) (by_bytes a b)

-- ---- small letters

-- A byte as `lower_case` has it.
abbrev pub letter : ℕ → ℕ
letter b = if leb 65 b && leb b 90 then b + 32 else b

-- As the library makes a letter small.
small-high : (b : ℕ) → 65 ≤ b → (t : Bool) → leb b 90 ≡ t → to_ascii_lowercase b ≡ letter b
small-high b low true e = rw (le-ltb b 65 low, lt-ltb b 91 (omega (arith, leb-true b 90 e)), le-leb 65 b low, e)
small-high b low false e = rw (le-ltb b 65 low, le-ltb b 91 (omega (arith, leb-false b 90 e)), le-leb 65 b low, e)

small-low : (b : ℕ) (t : Bool) → leb 65 b ≡ t → to_ascii_lowercase b ≡ letter b
small-low b true e = small-high b (leb-true 65 b e) (leb b 90) refl
small-low b false e = rw (lt-ltb b 65 (leb-false 65 b e), e)

pub small : (b : ℕ) → to_ascii_lowercase b ≡ letter b
small b = small-low b (leb 65 b) refl

pub small-length : (x : List ℕ) → length (lower_case x) ≡ length x
unfolding lower_case
small-length [] = refl
small-length (b ∷ x) = ap suc (small-length x)

pub small_at : (x : List ℕ) (i : ℕ) → get_or (lower_case x) i 0 ≡ letter (get_or x i 0)
unfolding lower_case
small_at [] i = refl
small_at (b ∷ x) zero = refl
small_at (b ∷ x) (suc i) = small_at x i

-- ---- two lists of bytes

pub unlike : (a b : List ℕ) → (length a ≡ length b → ⊥) → same_name a b ≡ false
unfolding same_name
unlike [] [] h = absurd (h refl)
unlike [] (y ∷ b) h = refl
unlike (x ∷ a) [] h = refl
unlike (x ∷ a) (y ∷ b) h = rw (unlike a b (λ e. h (ap suc e))) (and-false (eqb x y))

-- What the loop keeps: the first i bytes are the same, so the rest decides.
abbrev pub SoFar : (a b : List ℕ) (i : ℕ) → Type 0
SoFar a b i = (i ≤ length b) × (same_name a b ≡ same_name (drop i a) (drop i b))

-- One byte more.
ahead : (a b : List ℕ) (i : ℕ) → i < length a → i < length b → (t : Bool) → eqb (get_or a i 0) (get_or b i 0) ≡ t
    → same_name (drop i a) (drop i b) ≡ t && same_name (drop (i + 1) a) (drop (i + 1) b)
unfolding same_name
ahead a b i h k t e = rw (add-one, drop-cons a i 0 h, drop-cons b i 0 k, e)

-- ---- a name in small letters, and another

module _ (x name : List ℕ) where
  pub other_length : (length x ≡ length name → ⊥) → same_name (lower_case x) name ≡ false
  other_length h = unlike (lower_case x) name (λ e. h (sym (small-length x) ∙ e))

  module _ (long : length x ≡ length name) (i : ℕ) (inv : SoFar (lower_case x) name i) where
    pub same-all : length name ≤ i → same_name (lower_case x) name ≡ true
    unfolding same_name
    same-all h = inv.1
        ∙ rw (drop_of_length-le (lower_case x) {i = i} (omega (arith, small-length x)), drop_of_length-le name {i = i} h)

    module _ (h : i < length name) (b : ℕ) (e : b ≡ letter (get_or x i 0)) where
      byte-is : b ≡ get_or (lower_case x) i 0
      byte-is = e ∙ sym (small_at x i)

      pub same_more : b ≡ get_or name i 0 → SoFar (lower_case x) name (i + 1)
      same_more k = (
        omega arith,
        inv.1 ∙ ahead (lower_case x) name i (omega (arith, small-length x)) h true (eq-eqb _ _ (sym byte-is ∙ k)),
      )

      pub same-less : (b ≡ get_or name i 0 → ⊥) → same_name (lower_case x) name ≡ false
      same-less k =
          inv.1 ∙ ahead (lower_case x) name i (omega (arith, small-length x)) h false (ne_eqb _ _ (λ f. k (byte-is ∙ f)))
