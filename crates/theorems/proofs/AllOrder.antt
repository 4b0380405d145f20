-- the matches in the order of the rounds are each leaf's, rise in each part, and stand there once.
use Rattle.std.specs.Prelude.{if◌then◌else◌}
use Prim.Native.Nat.{ℕ, zero, suc, ◌+◌, ◌≤◌, ◌<◌}
use native.Mathlib.Omega.{arith}
use mathlib.Core.Path.{◌≡◌, refl, sym, ap, ap₂, ◌∙◌}
use mathlib.Core.Bool.{Bool, true, false, not}
use mathlib.Core.List.{List, [], ◌∷◌, ◌++◌}
use mathlib.Core.Option.{Option, none, some}
use lib.ListN.{length, get_or}
use lib.Dec.{eqb}
use borrow.Author.Tests.{eq-eqb, ne_eqb}
use Rattle.definitions.specs.Words.Expression.{Predicate}
use Rattle.definitions.specs.Filter.Extract.{Pick, is_knn, is_match}
use Rattle.definitions.specs.Filter.Conjuncts.{positions_from, matching, is_other, knn_first}
use Rattle.definitions.specs.Claims.All.{EveryPick, RisingFrom, times, TakenInOrder}
use Rattle.theorems.proofs.Tools.{by-test}
use Rattle.theorems.proofs.AllPicks.{Matches}

every_map : (P Q : Pick → Type 0) → ((p : Pick) → P p → Q p) → (ps : List Pick) → EveryPick P ps → EveryPick Q ps
every_map P Q f [] h = tt
every_map P Q f (p ∷ ps) h = (f p h.0, every_map P Q f ps h.1)

every_append : (P : Pick → Type 0) (ps qs : List Pick) → EveryPick P ps → EveryPick P qs → EveryPick P (ps ++ qs)
every_append P [] qs h k = k
every_append P (p ∷ ps) qs h k = (h.0, every_append P ps qs h.1 k)

weaker : (k k' : ℕ) (ps : List Pick) → k ≤ k' → RisingFrom k' ps → RisingFrom k ps
weaker k k' [] b h = tt
weaker k k' (p ∷ ps) b h = (omega (arith, h.0), h.1)

-- The picks whose positions count from k.
abbrev from : (Predicate → Bool) → ℕ → Matches → List Pick
from test k ms = matching test (positions_from k (length ms)) ms

-- A pick from k on has the match of its leaf.
abbrev Stands : ℕ → Matches → Pick → Type 0
Stands k ms p = (j : ℕ) × (p.position ≡ k + j) × (get_or ms j none ≡ some p.predicate)

stands-later : (k : ℕ) (m : Option Predicate) (ms : Matches) (p : Pick) → Stands (suc k) ms p → Stands k (m ∷ ms) p
stands-later k m ms p h = (suc h.0, omega (arith, h.1), h.2)

module _ (test : Predicate → Bool) where
  passing : (is : List ℕ) (ms : Matches) → EveryPick (λ p. test p.predicate ≡ true) (matching test is ms)
  unfolding matching
  passing is [] = tt
  passing [] (m ∷ ms) = tt
  passing (k ∷ is) (none ∷ ms) = passing is ms
  passing (k ∷ is) (some p ∷ ms) =
      by-test (EveryPick (λ p. test p.predicate ≡ true)) (test p) _ _ (λ e. (e, passing is ms)) (λ e. passing is ms)

  rising : (k : ℕ) (ms : Matches) → RisingFrom k (from test k ms)
  unfolding matching positions_from
  rising k [] = tt
  rising k (none ∷ ms) = weaker k (suc k) (from test (suc k) ms) (omega arith) (rising (suc k) ms)
  rising k (some p ∷ ms) =
      by-test (RisingFrom k) (test p) _ _ (λ e. (omega arith, rising (suc k) ms))
      (λ e. weaker k (suc k) (from test (suc k) ms) (omega arith) (rising (suc k) ms))

  standing : (k : ℕ) (ms : Matches) → EveryPick (Stands k ms) (from test k ms)
  unfolding matching positions_from
  standing k [] = tt
  standing k (none ∷ ms) =
      every_map (Stands (suc k) ms) (Stands k (none ∷ ms)) (stands-later k none ms) (from test (suc k) ms) (standing (suc k) ms)
  standing k (some p ∷ ms) =
      let later : EveryPick (Stands k (some p ∷ ms)) (from test (suc k) ms) =
      every_map (Stands (suc k) ms) (Stands k (some p ∷ ms)) (stands-later k (some p) ms) (from test (suc k) ms) (standing (suc k) ms) in
      by-test (EveryPick (Stands k (some p ∷ ms))) (test p) _ _ (λ e. ((0, omega arith, refl), later)) (λ e. later)

-- ---- once

not_yet : (x k : ℕ) (ps : List Pick) → x < k → RisingFrom k ps → times x ps ≡ 0
unfolding times
not_yet x k [] b h = refl
not_yet x k (p ∷ ps) b h =
    ap₂ (λ (t : Bool) (n : ℕ). (if t then 1 else 0) + n) (ne_eqb p.position x (λ e. omega (arith, h.0)))
    (not_yet x (suc p.position) ps (omega (arith, h.0)) h.1)

-- The first leaf counts for its own position only.
one_more : (b : Bool) (k x : ℕ) (p : Predicate) (ps qs : List Pick) (n : ℕ) → (if eqb k x then 1 else 0) + (times x ps + times x qs) ≡ n
    → times x (if b then record { position = k; predicate = p } ∷ ps else ps) + times x
    (if not b then record { position = k; predicate = p } ∷ qs else qs) ≡ n
unfolding times
one_more true k x p ps qs n h = omega arith
one_more false k x p ps qs n h = omega arith

once : (k x i : ℕ) (ms : Matches) → x ≡ k + i → times x (from is_knn k ms) + times x (from is_other k ms)
    ≡ (if is_match (get_or ms i none) then 1 else 0)
unfolding matching positions_from times is_match is_other
once k x i [] e = refl
once k x zero (none ∷ ms) e =
    ap₂ ◌+◌ (not_yet x (suc k) (from is_knn (suc k) ms) (omega arith) (rising is_knn (suc k) ms))
    (not_yet x (suc k) (from is_other (suc k) ms) (omega arith) (rising is_other (suc k) ms))
once k x (suc i) (none ∷ ms) e = once (suc k) x i ms (omega arith)
once k x zero (some p ∷ ms) e =
    one_more (is_knn p) k x p (from is_knn (suc k) ms) (from is_other (suc k) ms) 1
    (ap₂ (λ (t : Bool) (n : ℕ). (if t then 1 else 0) + n) (eq-eqb k x (omega arith))
    (ap₂ ◌+◌ (not_yet x (suc k) (from is_knn (suc k) ms) (omega arith) (rising is_knn (suc k) ms))
    (not_yet x (suc k) (from is_other (suc k) ms) (omega arith) (rising is_other (suc k) ms))))
once k x (suc i) (some p ∷ ms) e =
    one_more (is_knn p) k x p (from is_knn (suc k) ms) (from is_other (suc k) ms) _
    (ap (λ (t : Bool). (if t then 1 else 0) + (times x (from is_knn (suc k) ms) + times x (from is_other (suc k) ms)))
    (ne_eqb k x (λ q. omega arith))
    ∙ omega arith ∙ once (suc k) x i ms (omega arith))

times-append : (x : ℕ) (ps qs : List Pick) → times x (ps ++ qs) ≡ times x ps + times x qs
unfolding times
times-append x [] qs = omega arith
times-append x (p ∷ ps) qs = omega (arith, times-append x ps qs)

not-knn : (p : Pick) → is_other p.predicate ≡ true → is_knn p.predicate ≡ false
unfolding is_other
not-knn p h = by (is_knn p.predicate) h
  where
    by : (b : Bool) → not b ≡ true → b ≡ false
    by true e = sym e
    by false e = refl

-- The matches, the KNN ones first, are in the order that is claimed.
pub in-order : (ms : Matches) → TakenInOrder ms (knn_first (positions_from 0 (length ms)) ms)
unfolding knn_first
in-order ms =
    let here : (p : Pick) → Stands 0 ms p → get_or ms p.position none ≡ some p.predicate = λ p h.
    ap (λ (i : ℕ). get_or ms i none) (omega (arith, h.1)) ∙ h.2 in
    record {
      knns = from is_knn 0 ms;
      others = from is_other 0 ms;
      parts = refl;
      are_knn = passing is_knn (positions_from 0 (length ms)) ms;
      are_other = every_map (λ p. is_other p.predicate ≡ true) (λ p. is_knn p.predicate ≡ false) not-knn (from is_other 0 ms)
          (passing is_other (positions_from 0 (length ms)) ms);
      knns_rise = rising is_knn 0 ms;
      others_rise = rising is_other 0 ms;
      match = every_map (Stands 0 ms) (λ p. get_or ms p.position none ≡ some p.predicate) here (from is_knn 0 ms ++ from is_other 0 ms)
          (every_append (Stands 0 ms) (from is_knn 0 ms) (from is_other 0 ms) (standing is_knn 0 ms) (standing is_other 0 ms));
      once = λ i. times-append i (from is_knn 0 ms) (from is_other 0 ms) ∙ once 0 i i ms (omega arith);
    }
