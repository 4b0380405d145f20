-- the picks of the rounds, as lists: each round takes the next of the KNN matches, then of the others.
use Rattle.std.specs.Prelude.{if◌then◌else◌}
use Prim.Native.Nat.{ℕ, zero, suc, ◌+◌, ◌<◌}
use native.Mathlib.Nat.{not-suc-le-zero, le_of_suc-le-suc}
use native.Mathlib.Omega.{arith}
use mathlib.Core.Path.{◌≡◌, refl, sym, ap, ap₂, ◌∙◌}
use mathlib.Core.Bool.{Bool, true, false, not}
use mathlib.Core.List.{List, [], ◌∷◌, ◌++◌, map}
use mathlib.Core.Option.{Option, none, some}
use lib.ListN.{length, get_or, length-append}
use Rattle.definitions.specs.Words.Expression.{Predicate}
use Rattle.definitions.specs.Filter.Extract.{Pick, is_knn, first_match, first_of, pick}
use Rattle.definitions.specs.Filter.Conjuncts.{but, positions_from, matching, is_other, knn_first, match_count}
use Rattle.theorems.proofs.Pick.{no-match, passes, NoneBelow, First, first-is}

-- A list of matches.
abbrev pub Matches : Type 0
Matches = List (Option Predicate)

abbrev at : ℕ → Predicate → Pick
at i p = record { position = i; predicate = p }

-- ---- the matches that pass a test

module _ (test : Predicate → Bool) where
  abbrev choose : Bool → ℕ → Predicate → List Pick → List Pick
  choose b k p ps = if b then at k p ∷ ps else ps

  -- A leaf that does not pass may be left out.
  skip : (q : Predicate) → test q ≡ false → (is : List ℕ) (ms : Matches) (i : ℕ) → length is ≡ length ms → get_or ms i none ≡ some q
      → matching test (but i is) (but i ms) ≡ matching test is ms
  unfolding but matching
  skip q t is [] i n e = let z : ◌≡◌ {A = ℕ} 0 1 = cc in absurd (omega arith)
  skip q t [] (m ∷ ms) i n e = absurd (omega arith)
  skip q t (k ∷ is) (m ∷ ms) zero n e =
      sym (ap (λ (x : Option Predicate). matching test (k ∷ is) (x ∷ ms)) e ∙ ap (λ (b : Bool). choose b k q (matching test is ms)) t)
  skip q t (k ∷ is) (none ∷ ms) (suc i) n e = skip q t is ms i (omega arith) e
  skip q t (k ∷ is) (some p ∷ ms) (suc i) n e = ap (choose (test p) k p) (skip q t is ms i (omega arith) e)

  -- The first that passes is the first of them.
  take-first : (q : Predicate) → test q ≡ true → (is : List ℕ) (ms : Matches) (i : ℕ) → length is ≡ length ms → get_or ms i none ≡ some q
      → NoneBelow test ms i → matching test is ms ≡ at (get_or is i 0) q ∷ matching test (but i is) (but i ms)
  unfolding but matching passes
  take-first q t is [] i n e h = let z : ◌≡◌ {A = ℕ} 0 1 = cc in absurd (omega arith)
  take-first q t [] (m ∷ ms) i n e h = absurd (omega arith)
  take-first q t (k ∷ is) (m ∷ ms) zero n e h =
      ap (λ (x : Option Predicate). matching test (k ∷ is) (x ∷ ms)) e ∙ ap (λ (b : Bool). choose b k q (matching test is ms)) t
  take-first q t (k ∷ is) (none ∷ ms) (suc i) n e h = take-first q t is ms i (omega arith) e (λ j b. h (suc j) (omega arith))
  take-first q t (k ∷ is) (some p ∷ ms) (suc i) n e h =
      let no : test p ≡ false = h 0 (omega arith) in
      ap (λ (b : Bool). choose b k p (matching test is ms)) no
      ∙ take-first q t is ms i (omega arith) e (λ j b. h (suc j) (omega arith))
      ∙ ap (λ (b : Bool). at (get_or is i 0) q ∷ choose b k p (matching test (but i is) (but i ms))) (sym no)

  -- Where none passes there is none.
  none_pass : (is : List ℕ) (ms : Matches) → ((i : ℕ) → passes test (get_or ms i none) ≡ false) → matching test is ms ≡ []
  unfolding matching passes
  none_pass is [] h = refl
  none_pass [] (m ∷ ms) h = refl
  none_pass (k ∷ is) (none ∷ ms) h = none_pass is ms (λ i. h (suc i))
  none_pass (k ∷ is) (some p ∷ ms) h = ap (λ (b : Bool). choose b k p (matching test is ms)) (h 0) ∙ none_pass is ms (λ i. h (suc i))

-- ---- one round

not-passing : (test : Predicate → Bool) (m : Option Predicate) → m ≡ none → passes test m ≡ false
unfolding passes
not-passing test m e = ap (passes test) e

passes-is : (test : Predicate → Bool) (m : Option Predicate) (p : Predicate) → m ≡ some p → passes test m ≡ test p
unfolding passes
passes-is test m p e = ap (passes test) e

-- A pick with its position in the first frame.
abbrev pub placed : List ℕ → Pick → Pick
placed is p = at (get_or is p.position 0) p.predicate

-- What a round's pick is: none if no leaf matches, else a match, and the first in the order of the rounds.
abbrev pub Round : List ℕ → Matches → Option Pick → Type 0
Round is ms none = (i : ℕ) → get_or ms i none ≡ none
Round is ms (some p) =
    (p.position < length ms) × (get_or ms p.position none ≡ some p.predicate)
    × (knn_first is ms ≡ placed is p ∷ knn_first (but p.position is) (but p.position ms))

round_by : (is : List ℕ) (ms : Matches) → length is ≡ length ms → (p q : Option Pick) → First is_knn ms p → First (λ x. true) ms q
    → Round is ms (first_of p q)
unfolding first_of knn_first is_other
round_by is ms n none none h k = λ i. no-match (get_or ms i none) (k i)
round_by is ms n none (some q) h k =
    let i : ℕ = q.position in
    let other : is_knn q.predicate ≡ false = sym (passes-is is_knn (get_or ms i none) q.predicate k.1) ∙ h i in
    let empty : matching is_knn is ms ≡ [] = none_pass is_knn is ms h in
    let gone : matching is_knn (but i is) (but i ms) ≡ [] = skip is_knn q.predicate other is ms i n k.1 ∙ empty in
    let first : matching is_other is ms ≡ _ =
    take-first is_other q.predicate (ap not other) is ms i n k.1
    (λ j b. not-passing is_other (get_or ms j none) (no-match (get_or ms j none) (k.3 j b))) in (
      k.0,
      k.1,
      ap₂ ◌++◌ empty first
          ∙ ap (λ (x : List Pick). at (get_or is i 0) q.predicate ∷ (x ++ matching is_other (but i is) (but i ms))) (sym gone),
    )
round_by is ms n (some p) q h k =
    let i : ℕ = p.position in (
      h.0,
      h.1,
      ap₂ ◌++◌ (take-first is_knn p.predicate h.2 is ms i n h.1 h.3)
          (sym (skip is_other p.predicate (ap not h.2) is ms i n h.1)),
    )

pub a-round : (is : List ℕ) (ms : Matches) → length is ≡ length ms → Round is ms (pick ms)
unfolding pick
a-round is ms n = round_by is ms n (first_match is_knn ms) (first_match (λ p. true) ms) (first-is is_knn ms) (first-is (λ p. true) ms)

-- ---- where no leaf matches

pub no-picks : (is : List ℕ) (ms : Matches) → ((i : ℕ) → get_or ms i none ≡ none) → knn_first is ms ≡ []
unfolding knn_first
no-picks is ms h =
    ap₂ ◌++◌ (none_pass is_knn is ms (λ i. not-passing is_knn (get_or ms i none) (h i)))
    (none_pass is_other is ms (λ i. not-passing is_other (get_or ms i none) (h i)))

-- ---- how many they are

matching-count : (is : List ℕ) (ms : Matches) → length is ≡ length ms
    → length (matching is_knn is ms) + length (matching is_other is ms) ≡ match_count ms
unfolding matching match_count is_other
matching-count is [] n = refl
matching-count [] (m ∷ ms) n = absurd (omega arith)
matching-count (k ∷ is) (none ∷ ms) n = matching-count is ms (omega arith)
matching-count (k ∷ is) (some p ∷ ms) n = by (is_knn p) (matching-count is ms (omega arith))
  where
    by : (b : Bool) → length (matching is_knn is ms) + length (matching is_other is ms) ≡ match_count ms
        → length (if b then at k p ∷ matching is_knn is ms else matching is_knn is ms)
        + length (if not b then at k p ∷ matching is_other is ms else matching is_other is ms) ≡ suc (match_count ms)
    by true h = omega arith
    by false h = omega arith

-- The number of picks is that of matching leaves.
pub picks-count : (is : List ℕ) (ms : Matches) → length is ≡ length ms → length (knn_first is ms) ≡ match_count ms
unfolding knn_first
picks-count is ms n = length-append (matching is_knn is ms) (matching is_other is ms) ∙ matching-count is ms n

pub positions-length : (i n : ℕ) → length (positions_from i n) ≡ n
unfolding positions_from
positions-length i zero = refl
positions-length i (suc n) = ap suc (positions-length (suc i) n)

-- ---- a list without an element

pub but-length : {A : Type 0} (xs : List A) (i : ℕ) → i < length xs → suc (length (but i xs)) ≡ length xs
unfolding but
but-length [] i h = absurd (not-suc-le-zero h)
but-length (x ∷ xs) zero h = refl
but-length (x ∷ xs) (suc i) h = ap suc (but-length xs i (le_of_suc-le-suc h))

pub map-but : {A B : Type 0} (f : A → B) (xs : List A) (i : ℕ) → map f (but i xs) ≡ but i (map f xs)
unfolding but
map-but f [] zero = refl
map-but f [] (suc i) = refl
map-but f (x ∷ xs) zero = refl
map-but f (x ∷ xs) (suc i) = ap (λ (l : List _). f x ∷ l) (map-but f xs i)
