-- Laws of the first match in a list of matches, and of the pick.
use Rattle.std.specs.Prelude.{if◌then◌else◌}
use Prim.Native.Nat.{ℕ, suc}
use native.Mathlib.Omega.{arith}
use mathlib.Core.Path.{◌≡◌, refl, sym, ap, ◌∙◌}
use mathlib.Core.Bool.{Bool, true, false, not}
use mathlib.Core.List.{List, [], ◌∷◌, ◌++◌}
use mathlib.Core.Option.{Option, none, some, some-ne-none}
use lib.ListN.{length}
use Rattle.definitions.specs.Words.Expression.{Predicate}
use Rattle.definitions.specs.Filter.Extract.{Pick, is_knn, later, first_match, first_of, pick}
use Rattle.theorems.proofs.Walks.{moved, moved-zero}
use Rattle.leaf_matching.specs.Matches.{Lacks}
use Rattle.leaf_pick.specs.Picks.{is_other}

abbrev pub at_position : ℕ → Predicate → Option Pick
at_position i q = some (record { position = i; predicate = q })

later-moved : (n : ℕ) (p q : Option Pick) → later (first_of p (moved n q)) ≡ first_of (later p) (moved (suc n) q)
unfolding later first_of moved
later-moved n (some p) q = refl
later-moved n none none = refl
later-moved n none (some q) = ap (λ (i : ℕ). at_position i q.predicate) (omega arith)

module _ (test : Predicate → Bool) where
  by_one : (b : Bool) (p : Pick) (x y q : Option Pick) → x ≡ first_of y q → (if b then some p else x) ≡ first_of (if b then some p else y) q
  unfolding first_of
  by_one true p x y q e = refl
  by_one false p x y q e = e

  -- The first match of two lists is that of the first, else that of the second.
  pub first-append : (xs ys : List (Option Predicate))
      → first_match test (xs ++ ys) ≡ first_of (first_match test xs) (moved (length xs) (first_match test ys))
  unfolding first_match first_of
  first-append [] ys = sym (moved-zero (first_match test ys))
  first-append (none ∷ xs) ys = ap later (first-append xs ys) ∙ later-moved (length xs) (first_match test xs) (first_match test ys)
  first-append (some p ∷ xs) ys = by_one (test p) (record { position = 0; predicate = p }) _ _ _
      (ap later (first-append xs ys) ∙ later-moved (length xs) (first_match test xs) (first_match test ys))

  -- Of one leaf.
  pub first-match : (m : Option Predicate) (q : Predicate) → m ≡ some q → test q ≡ true → first_match test (m ∷ []) ≡ at_position 0 q
  unfolding first_match
  first-match m q e h = rw (e, h)

  pub first-lacks : (m : Option Predicate) → Lacks test m → first_match test (m ∷ []) ≡ none
  unfolding first_match later
  first-lacks none h = refl
  first-lacks (some q) h = rw h

-- ---- two passes

not-later : (p : Option Pick) → later p ≡ none → p ≡ none
unfolding later
not-later none e = refl
not-later (some p) e = absurd (some-ne-none _ e)

other-first : (b : Bool) (p : Pick) (x y : Option Pick) → (if b then some p else x) ≡ none → some p ≡ (if not b then some p else y)
other-first true p x y e = absurd (some-ne-none p e)
other-first false p x y e = refl

-- Without a KNN match, the first match is the first that is not KNN.
no-knn : (ms : List (Option Predicate)) → first_match is_knn ms ≡ none → first_match (λ p. true) ms ≡ first_match is_other ms
unfolding first_match
no-knn [] e = refl
no-knn (none ∷ ms) e = ap later (no-knn ms (not-later (first_match is_knn ms) e))
no-knn (some q ∷ ms) e = other-first (is_knn q) (record { position = 0; predicate = q }) _ _ e

pub pick-knn : (ms : List (Option Predicate)) (p : Pick) → first_match is_knn ms ≡ some p → pick ms ≡ first_match is_knn ms
unfolding pick first_of
pick-knn ms p e = rw e

pub pick_other : (ms : List (Option Predicate)) → first_match is_knn ms ≡ none → pick ms ≡ first_match is_other ms
unfolding pick first_of
pick_other ms e = rw e (no-knn ms e)
