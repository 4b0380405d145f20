-- The loop over a row's numbers: those passed were found in the list, and changed.
use Prim.Native.Nat.{ℕ, zero, suc, ◌+◌, ◌-◌, ◌/◌, ◌%◌, ◌≤◌, ◌<◌}
use native.Mathlib.Omega.{arith}
use native.Mathlib.Nat.{not-suc-le-zero}
use mathlib.Core.Path.{◌≡◌, refl, sym, ap, ap₂, ◌∙◌}
use mathlib.Core.Bool.{Bool, true, false, and-false}
use mathlib.Core.List.{List, [], ◌∷◌, ◌++◌, map, append-nil}
use mathlib.Core.Option.{none, some}
use lib.ListN.{length, take, drop, get_or, set, length-map, drop_of_length-le}
use lib.Seq.{take_all, length-take-le, drop-cons, get_or_at}
use borrow.Author.Tests.{eq-eqb, ne_eqb}
use borrow.Author.Count.{below_more}
use Rattle.definitions.specs.Words.Basics.{all}
use Rattle.definitions.specs.Filter.Project.{place_in, is_place, or_zero}
use Rattle.theorems.proofs.Tools.{mapped_at}
use Rattle.byte_writer.proofs.Written.{write-more}
use Rattle.projection.specs.Placing.{has_number, placed_number, PlacedIs}

-- ---- a test of every number

all_true : (test : ℕ → Bool) (xs : List ℕ) → ((k : ℕ) → k < length xs → test (get_or xs k 0) ≡ true) → all test xs ≡ true
unfolding all
all_true test [] h = refl
all_true test (x ∷ xs) h = rw (h 0 (omega arith)) (all_true test xs (λ k b. h (suc k) (omega arith)))

all-false : (test : ℕ → Bool) (xs : List ℕ) (k : ℕ) → k < length xs → test (get_or xs k 0) ≡ false → all test xs ≡ false
unfolding all
all-false test [] k b e = absurd (not-suc-le-zero b)
all-false test (x ∷ xs) zero b e = rw e refl
all-false test (x ∷ xs) (suc k) b e = rw (all-false test xs k (omega arith) e) (and-false (test x))

-- ---- one number

module _ (side : ℕ) (items : List ℕ) (number : ℕ) where
  module _ (other : number / 65536 % 4 ≡ side → ⊥) where
    pub other-has : has_number side items number ≡ true
    unfolding has_number
    other-has = rw (ne_eqb (number / 65536 % 4) side other) refl

    pub other-stays : placed_number side items number ≡ number
    unfolding placed_number
    other-stays = rw (ne_eqb (number / 65536 % 4) side other) refl

  module _ (same : number / 65536 % 4 ≡ side) where
    pub missing-lacks : none ≡ place_in items (number % 65536) → has_number side items number ≡ false
    unfolding has_number is_place
    missing-lacks e = rw (eq-eqb (number / 65536 % 4) side same, ← e) refl

    pub found-has : (place : ℕ) → some place ≡ place_in items (number % 65536) → has_number side items number ≡ true
    unfolding has_number is_place
    found-has place e = rw (eq-eqb (number / 65536 % 4) side same, ← e) refl

    pub found-placed : (place : ℕ) → some place ≡ place_in items (number % 65536)
        → number - number % 65536 + place ≡ placed_number side items number
    unfolding placed_number or_zero
    found-placed place e = rw (eq-eqb (number / 65536 % 4) side same, ← e) refl

-- ---- the loop

pub record Placing (side : ℕ) (items before row : List ℕ) (k : ℕ) : Type 0 where
  pub below : k ≤ length before
  pub has : (j : ℕ) → j < k → has_number side items (get_or before j 0) ≡ true
  pub is : row ≡ take k (map (placed_number side items) before) ++ drop k before

module _ {side : ℕ} {items before row : List ℕ} {k : ℕ} (inv : Placing side items before row k) where
  abbrev f : ℕ → ℕ
  f = placed_number side items

  module _ (more : k < length before) where
    -- The number at hand is as it was.
    pub number-is : get_or row k 0 ≡ get_or before k 0
    number-is =
        ap (λ (l : List ℕ). get_or l k 0)
        (inv.is ∙ ap (λ (l : List ℕ). take k (map f before) ++ l) (drop-cons before k 0 (omega arith)))
        ∙ get_or_at (take k (map f before)) (get_or before k 0) (drop (suc k) before) 0 k
        (length-take-le k (map f before) (omega (arith, length-map before f)))

    pub placing-goes-on : has_number side items (get_or row k 0) ≡ true → (b : ℕ) → b ≡ f (get_or row k 0)
        → Placing side items before (set row k b) (k + 1)
    placing-goes-on has b e =
        let value : b ≡ get_or (map f before) k 0 =
        e ∙ ap f number-is ∙ sym (mapped_at f before k 0 0 (omega arith)) in
        record {
          below = omega arith;
          has = below_more (λ j. has_number side items (get_or before j 0) ≡ true) k inv.has
              (ap (has_number side items) (sym number-is) ∙ has);
          is = ap (set row k) value
              ∙ write-more (map f before) before row k (omega (arith, length-map before f)) (omega arith)
              inv.is;
        }

    pub placing-fails : has_number side items (get_or row k 0) ≡ false → PlacedIs side items before row false
    placing-fails lacks = all-false (has_number side items) before k more (ap (has_number side items) (sym number-is) ∙ lacks)

  pub placing-ends : length before ≤ k → PlacedIs side items before row true
  placing-ends whole = (
    all_true (has_number side items) before (λ j b. inv.has j (omega arith)),
    inv.is
        ∙ ap₂ ◌++◌ (take_all k (map f before) (omega (arith, length-map before f))) (drop_of_length-le before {i = k} whole)
        ∙ append-nil (map f before),
  )
