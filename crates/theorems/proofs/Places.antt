-- The place of an index is the first position that has it, and nothing else is.
use Prim.Native.Nat.{ℕ, zero, suc, ◌≤◌, ◌<◌}
use native.Mathlib.Nat.{not-suc-le-zero, le_of_suc-le-suc, zero-lt-suc}
use native.Mathlib.Omega.{arith}
use mathlib.Core.Path.{◌≡◌, refl, sym, ap, ◌∙◌}
use mathlib.Core.Bool.{Bool, true, false, false≢true}
use mathlib.Core.List.{List, [], ◌∷◌}
use mathlib.Core.Option.{Option, none, some, map}
use lib.ListN.{length, get_or}
use lib.Dec.{ltb, eqb}
use borrow.Author.Tests.{ltb-true, ltb-false, eqb-true, eqb-false}
use Rattle.definitions.specs.Filter.Project.{place_in, is_place, or_zero}
use Rattle.definitions.specs.Claims.Project.{FirstPlace, PlaceExactly}
use Rattle.theorems.proofs.Tools.{by-test}

-- No position of a longer list has it either,
none_before : (item : ℕ) (items : List ℕ) (index bound : ℕ) → (item ≡ index → ⊥) → ((i : ℕ) → i < bound → get_or items i 0 ≡ index → ⊥)
    → (i : ℕ) → i < suc bound → get_or (item ∷ items) i 0 ≡ index → ⊥
none_before item items index bound other h zero k e = other e
none_before item items index bound other h (suc i) k e = h i (le_of_suc-le-suc k) e

-- and a place is one later in it.
later-place : (item : ℕ) (items : List ℕ) (index : ℕ) → (item ≡ index → ⊥) → (p : Option ℕ) → FirstPlace items index p
    → FirstPlace (item ∷ items) index (map suc p)
later-place item items index other none h = none_before item items index (length items) other h
later-place item items index other (some place) h = (omega (arith, h.0), h.1, none_before item items index place other h.2)

pub place_is : (items : List ℕ) (index : ℕ) → FirstPlace items index (place_in items index)
unfolding place_in
place_is [] index = λ i k e. not-suc-le-zero k
place_is (item ∷ items) index =
    by-test (FirstPlace (item ∷ items) index) (eqb item index) (some 0) (map suc (place_in items index))
    (λ e. (zero-lt-suc _, eqb-true item index e, λ i k _. not-suc-le-zero k))
    (λ e. later-place item items index (eqb-false item index e) (place_in items index) (place_is items index))

-- Nothing else is an index's place.
same_place : (items : List ℕ) (index : ℕ) (p q : Option ℕ) → FirstPlace items index p → FirstPlace items index q → p ≡ q
same_place items index none none h k = refl
same_place items index none (some q) h k = absurd (h q k.0 k.1)
same_place items index (some p) none h k = absurd (k p h.0 h.1)
same_place items index (some p) (some q) h k = ap {B = Option ℕ} some (in-order (ltb p q) refl (ltb q p) refl)
  where
    in-order : (a : Bool) → ltb p q ≡ a → (b : Bool) → ltb q p ≡ b → p ≡ q
    in-order true e b f = absurd (k.2 p (ltb-true p q e) h.1)
    in-order false e true f = absurd (h.2 q (ltb-true q p f) k.1)
    in-order false e false f = omega (arith, ltb-false p q e, ltb-false q p f)

pub place-exactly-is : PlaceExactly
place-exactly-is = (place_is, λ items index p h. same_place items index (place_in items index) p (place_is items index) h)

-- Where the new columns have the values of the old ones listed there, a place has the value of its index.
pub listed-value : (f g : ℕ → ℕ) (items : List ℕ) (index : ℕ) → ((i : ℕ) → i < length items → g i ≡ f (get_or items i 0))
    → (p : Option ℕ) → FirstPlace items index p → is_place p ≡ true → f index ≡ g (or_zero p)
unfolding is_place or_zero
listed-value f g items index same none h e = absurd (false≢true e)
listed-value f g items index same (some place) h e = sym (same place h.0 ∙ ap f h.1)

-- A place is below its list's length, and 0 stands for a missing one.
pub place_short : (items : List ℕ) (index : ℕ) → length items ≤ 4096 → (p : Option ℕ) → FirstPlace items index p → or_zero p < 65536
unfolding or_zero
place_short items index h none k = omega arith
place_short items index h (some place) k = omega (arith, k.0)
