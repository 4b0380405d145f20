-- The first match under a test is at its position, and no earlier leaf passes the test; the pick is the first of two such.
use Prim.Native.Nat.{ℕ, zero, suc, ◌+◌, ◌≤◌, ◌<◌}
use native.Mathlib.Nat.{not-suc-le-zero, le_of_suc-le-suc, zero-lt-suc}
use native.Mathlib.Omega.{arith}
use mathlib.Core.Path.{◌≡◌, refl, sym, ap, ap₂, ◌∙◌, subst}
use mathlib.Core.Bool.{Bool, true, false, ◌||◌, or-true, false≢true}
use mathlib.Core.List.{List, [], ◌∷◌}
use mathlib.Core.Option.{Option, none, some, map}
use lib.ListN.{length, get_or, length-append, length-map}
use Rattle.definitions.specs.Words.Limits.{most_nodes}
use Rattle.definitions.specs.Words.Basics.{any}
use Rattle.definitions.specs.Words.Expression.{Expr, column, literal, and, binary, call, other, field, Frame, Predicate, Extraction, held}
use Rattle.definitions.specs.Words.Leaves.{leaves}
use Rattle.definitions.specs.Filter.Extract.{Pick, is_knn, later, first_match, first_of, pick, without, prune, take_pick, Matcher, matches_by, extraction_by, is_match, is_knn_match}
use Rattle.definitions.specs.Bytes.Good.{nodes, Short, plan_nodes, GoodPlan}
use Rattle.definitions.specs.Claims.Lists.{some_leaf_matches_by}
use Rattle.definitions.specs.Claims.Pick.{match_at, TookAmong}
use Rattle.theorems.proofs.Cases.{each}
use Rattle.theorems.proofs.Tools.{by-test, mapped_at}
use Rattle.theorems.proofs.Taken.{Taken, taken}

-- Whether a leaf matches and passes a test.
unfoldable pub passes : (Predicate → Bool) → Option Predicate → Bool
passes test none = false
passes test (some p) = test p

-- ---- the first match

module _ (test : Predicate → Bool) where
  -- No leaf passes below a position.
  abbrev pub NoneBelow : List (Option Predicate) → ℕ → Type 0
  NoneBelow ms k = (i : ℕ) → i < k → passes test (get_or ms i none) ≡ false

  -- What the first match is: at its position, and the first; if there is none, no leaf passes.
  abbrev pub First : List (Option Predicate) → Option Pick → Type 0
  First ms none = (i : ℕ) → passes test (get_or ms i none) ≡ false
  First ms (some p) =
      (p.position < length ms) × (get_or ms p.position none ≡ some p.predicate) × (test p.predicate ≡ true)
      × NoneBelow ms p.position

  none_below : (m : Option Predicate) (ms : List (Option Predicate)) (k : ℕ) → passes test m ≡ false → NoneBelow ms k
      → NoneBelow (m ∷ ms) (suc k)
  none_below m ms k e h zero b = e
  none_below m ms k e h (suc i) b = h i (le_of_suc-le-suc b)

  later_first : (m : Option Predicate) (ms : List (Option Predicate)) (p : Option Pick) → passes test m ≡ false → First ms p
      → First (m ∷ ms) (later p)
  unfolding later
  later_first m ms none e h = λ i. none_below m ms (suc i) e (λ j _. h j) i (omega arith)
  later_first m ms (some p) e h = (omega (arith, h.0), h.1, h.2, none_below m ms p.position e h.3)

  pub first-is : (ms : List (Option Predicate)) → First ms (first_match test ms)
  unfolding first_match passes
  first-is [] = λ i. refl
  first-is (none ∷ ms) = later_first none ms (first_match test ms) refl (first-is ms)
  first-is (some q ∷ ms) =
      by-test (First (some q ∷ ms)) (test q) _ _ (λ e. (zero-lt-suc (length ms), refl, e, λ i b. absurd (not-suc-le-zero b)))
      (λ e. later_first (some q) ms (first_match test ms) e (first-is ms))

-- ---- the pick

-- The extraction that takes a pick.
abbrev pub taking : Frame → Pick → Extraction
taking F p = record {
  position = p.position;
  predicate = p.predicate;
  remainder = map (prune F.records) (without p.position F.expr);
}

pub no-match : (m : Option Predicate) → passes (λ p. true) m ≡ false → m ≡ none
unfolding passes
no-match none e = refl
no-match (some p) e = absurd (false≢true (sym e))

no-knn : (m : Option Predicate) → passes is_knn m ≡ false → is_knn_match m ≡ false
unfolding passes is_knn_match
no-knn none e = refl
no-knn (some p) e = e

-- Whatever the matches of a frame's leaves are:
module _ (ms : List (Option Predicate)) (F : Frame) where
  -- What the pick is; if there is none, no leaf matches.
  abbrev pub Picked : Option Pick → Type 0
  Picked none = (i : ℕ) → match_at ms i ≡ none
  Picked (some p) = (p.position < length ms) × TookAmong ms F (taking F p)

  first-picked : (p q : Option Pick) → First is_knn ms p → First (λ p. true) ms q → Picked (first_of p q)
  unfolding first_of
  first-picked none none h k = λ i. no-match (match_at ms i) (k i)
  first-picked none (some q) h k = (
    k.0,
    record {
      match = k.1;
      rest = refl;
      first_knn = λ _ i _. no-knn (match_at ms i) (h i);
      no_knn = λ _ i. no-knn (match_at ms i) (h i);
      first_match = λ _ i b. no-match (match_at ms i) (k.3 i b);
    },
  )
  first-picked (some p) q h k = (
    h.0,
    record {
      match = h.1;
      rest = refl;
      first_knn = λ _ i b. no-knn (match_at ms i) (h.3 i b);
      no_knn = λ e i. absurd (false≢true (sym e ∙ h.2));
      first_match = λ e i b. absurd (false≢true (sym e ∙ h.2));
    },
  )

  pub picked : Picked (pick ms)
  unfolding pick
  picked = first-picked (first_match is_knn ms) (first_match (λ p. true) ms) (first-is is_knn ms) (first-is (λ p. true) ms)

  took_by : (p : Option Pick) → Picked p → (X : Extraction) → take_pick F p ≡ some X → (X.position < length ms) × TookAmong ms F X
  unfolding take_pick
  took_by none h X e = let z : ◌≡◌ {A = ℕ} 0 1 = cc in absurd (omega arith)
  took_by (some p) h X e =
      let same : taking F p ≡ X = cc in
      subst (λ (Y : Extraction). (Y.position < length ms) × TookAmong ms F Y) same h

  -- Where nothing was taken, nothing was picked.
  untaken : (p : Option Pick) → Picked p → take_pick F p ≡ none → (i : ℕ) → match_at ms i ≡ none
  unfolding take_pick
  untaken none h e = h
  untaken (some p) h e = let z : ◌≡◌ {A = ℕ} 0 1 = cc in absurd (omega arith)

-- What is taken, and what it means that nothing is.
module _ (match : Matcher) (F : Frame) where
  pub takes-by : (X : Extraction) → extraction_by match F ≡ some X → TookAmong (matches_by match F) F X
  unfolding extraction_by
  takes-by X e = (took_by (matches_by match F) F (pick (matches_by match F)) (picked (matches_by match F) F) X e).1

  -- It is one of the AND-leaves.
  pub position-of-leaf : (X : Extraction) → extraction_by match F ≡ some X → X.position < length (leaves F.expr)
  unfolding extraction_by matches_by
  position-of-leaf X e =
      rw (length-map (leaves F.expr) (match F.records))
      at (took_by (matches_by match F) F (pick (matches_by match F)) (picked (matches_by match F) F) X e).0

  pub none-by : extraction_by match F ≡ none → (i : ℕ) → match_at (matches_by match F) i ≡ none
  unfolding extraction_by
  none-by = untaken (matches_by match F) F (pick (matches_by match F)) (picked (matches_by match F) F)

-- ---- whether a leaf matches

pub any_none : (ms : List (Option Predicate)) → ((i : ℕ) → get_or ms i none ≡ none) → any is_match ms ≡ false
unfolding any is_match
any_none [] h = refl
any_none (m ∷ ms) h = ap₂ ◌||◌ (ap is_match (h 0)) (any_none ms (λ i. h (suc i)))

pub any_some : (ms : List (Option Predicate)) (i : ℕ) (p : Predicate) → get_or ms i none ≡ some p → any is_match ms ≡ true
unfolding any is_match
any_some [] i p e = let z : ◌≡◌ {A = ℕ} 0 1 = cc in absurd (omega arith)
any_some (m ∷ ms) zero p e = ap (λ (x : Option Predicate). is_match x || any is_match ms) e
any_some (m ∷ ms) (suc i) p e = ap (λ (b : Bool). is_match m || b) (any_some ms i p e) ∙ or-true (is_match m)

-- Whether there is an extraction, as a test says.
abbrev pub Matched : Bool → Option Extraction → Type 0
Matched found none = found ≡ false
Matched found (some X) = found ≡ true

-- There is one exactly when a leaf matches.
take-matched : (ms : List (Option Predicate)) (F : Frame) (p : Option Pick) → Picked ms F p → Matched (any is_match ms) (take_pick F p)
unfolding take_pick
take-matched ms F none h = any_none ms h
take-matched ms F (some p) h = any_some ms p.position p.predicate h.1.match

pub matched : (match : Matcher) (F : Frame) → Matched (some_leaf_matches_by match F) (extraction_by match F)
unfolding extraction_by some_leaf_matches_by
matched match F = take-matched (matches_by match F) F (pick (matches_by match F)) (picked (matches_by match F) F)

-- ---- the leaf that is picked

-- The leaf at a position; a literal stands for a position that is not there.
pub leaf_at : Frame → ℕ → Expr
leaf_at F i = get_or (leaves F.expr) i (literal 0 0)

-- An And has its sides' AND-leaves, any other expression is one.
pub leaves-most : (size : Expr → ℕ) → ((e : Expr) → 0 < size e) → ((l r : Expr) → size l + size r ≤ size (and l r)) → (e : Expr)
    → length (leaves e) ≤ size e
unfolding leaves
leaves-most size one sum (and l r) =
    simp length-append (omega (arith, leaves-most size one sum l, leaves-most size one sum r, sum l r))
leaves-most size one sum (column i g) = omega (arith, one (column i g))
leaves-most size one sum (literal y v) = omega (arith, one (literal y v))
leaves-most size one sum (binary o l r) = omega (arith, one (binary o l r))
leaves-most size one sum (call n ts) = omega (arith, one (call n ts))
leaves-most size one sum (other g ts) = omega (arith, one (other g ts))
leaves-most size one sum (field b g) = omega (arith, one (field b g))

-- Each AND-leaf is a node, so a good frame has at most 1,024 of them.
pub leaves-nodes : (e : Expr) → length (leaves e) ≤ nodes e
unfolding leaves nodes
leaves-nodes = leaves-most nodes
    (each (λ e. 0 < nodes e) (λ i g. omega arith) (λ y v. omega arith) (λ l r. omega arith) (λ o l r. omega arith) (λ n ts. omega arith)
    (λ g ts. omega arith) (λ b g. omega arith))
    (λ l r. omega arith)

pub few-leaves : (F : Frame) → GoodPlan (held F) → length (leaves F.expr) ≤ most_nodes
unfolding plan_nodes
few-leaves F g = omega (arith, leaves-nodes F.expr, g.few_nodes)

module _ (match : Matcher) (F : Frame) (p : Pick) (h : Picked (matches_by match F) F (some p)) where
  position-below : p.position < length (leaves F.expr)
  unfolding matches_by
  position-below = rw (length-map (leaves F.expr) (match F.records)) at h.0

  -- Two bytes hold it.
  pub position-short : GoodPlan (held F) → Short p.position
  position-short g = omega (arith, position-below, few-leaves F g)

  -- It is taken out of the expression,
  pub pick-taken : Taken F.expr (leaf_at F p.position) (without p.position F.expr)
  unfolding leaf_at
  pick-taken = taken F.expr (literal 0 0) p.position position-below

  -- and the predicate is its match.
  pub pick-matches : match F.records (leaf_at F p.position) ≡ some p.predicate
  unfolding leaf_at matches_by
  pick-matches = sym (mapped_at (match F.records) (leaves F.expr) p.position (literal 0 0) none position-below) ∙ h.1.match
