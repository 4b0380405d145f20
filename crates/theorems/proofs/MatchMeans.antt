-- The sides that let a leaf match say which columns its arguments read: so its match has the value of what it asks for.
use Rattle.std.specs.Prelude.{if◌then◌else◌}
use Prim.Native.Nat.{ℕ}
use native.Mathlib.Omega.{arith}
use mathlib.Core.Path.{◌≡◌, refl, sym, ap, ap₂, ◌∙◌, subst}
use mathlib.Core.Bool.{Bool, true, false, false≢true}
use mathlib.Core.List.{List, [], ◌∷◌, map}
use mathlib.Core.Option.{none, some}
use lib.ListN.{length}
use Rattle.definitions.specs.Words.Basics.{all}
use Rattle.definitions.specs.Words.Expression.{Side, left, right, no_side, Relation, Expr, Record, Predicate, knn}
use Rattle.definitions.specs.Bytes.Decode.{index_below}
use Rattle.definitions.specs.Words.References.{columns_of, record_at, same_side}
use Rattle.definitions.specs.Filter.Match.{ArgumentSide, no_columns, all_on, mixed, common_side, side_of, is_side, Order, left_right, right_left, no_order, order_of, on_child, Request, ask_relation, ask_distance, ask_knn, ask_nothing, match_relation, store_distance, match_distance, match_knn, match_request, match_leaf_by, request_by}
use Rattle.definitions.specs.Filter.Exchange.{negate}
use Rattle.definitions.specs.Bytes.Good.{All, InRange}
use Rattle.definitions.specs.Meaning.Values.{Valuation, Meaning, value, frame_columns, predicate_value, FairBy}
use Rattle.definitions.specs.Filter.Extract.{Matcher}
use Rattle.definitions.specs.Filter.Settings.{passing, only_if}
use Rattle.theorems.proofs.Tools.{by-test, and-both}
use Rattle.theorems.proofs.OnlyIf.{passing-is}
use Rattle.definitions.specs.Meaning.Matchers.{Valued}
use Rattle.theorems.proofs.Values.{map-value, same-value, form-symmetric}
use Rattle.theorems.proofs.MatchAsks.{MeansSame, request-means}

-- ---- sides

same-side : (s t : Side) → same_side s t ≡ true → t ≡ s
unfolding same_side
same-side left left e = refl
same-side left right e = absurd (false≢true e)
same-side left no_side e = absurd (false≢true e)
same-side right left e = absurd (false≢true e)
same-side right right e = refl
same-side right no_side e = absurd (false≢true e)
same-side no_side left e = absurd (false≢true e)
same-side no_side right e = absurd (false≢true e)
same-side no_side no_side e = refl

all_same : (g : ℕ → Side) (s : Side) (is : List ℕ) → all (same_side s) (map g is) ≡ true → All (λ i. g i ≡ s) is
unfolding all
all_same g s [] e = tt
all_same g s (i ∷ is) e =
    let both : (same_side s (g i) ≡ true) × (all (same_side s) (map g is) ≡ true) =
    and-both (same_side s (g i)) (all (same_side s) (map g is)) e in
    (same-side s (g i) both.0, all_same g s is both.1)

all-side : (b : Bool) (s t : Side) → (if b then all_on s else mixed) ≡ all_on t → (b ≡ true) × (s ≡ t)
all-side true s t e = (refl, cc)
all-side false s t e = let z : ◌≡◌ {A = ℕ} 0 1 = cc in absurd (omega arith)

common-is : (g : ℕ → Side) (is : List ℕ) (s : Side) → common_side (map g is) ≡ all_on s → All (λ i. g i ≡ s) is
unfolding common_side
common-is g [] s e = tt
common-is g (i ∷ is) s e =
    let p : (all (same_side (g i)) (map g is) ≡ true) × (g i ≡ s) = all-side (all (same_side (g i)) (map g is)) (g i) s e in
    (p.1, subst (λ (t : Side). All (λ j. g j ≡ t) is) p.1 (all_same g (g i) is p.0))

pub side-is : (rs : List Record) (e : Expr) (s : Side) → side_of rs e ≡ all_on s → All (λ i. (record_at rs i).side ≡ s) (columns_of e)
unfolding side_of
side-is rs e s h = common-is (λ i. (record_at rs i).side) (columns_of e) s h

mixed-or-all : (b : Bool) (s : Side) → (if b then all_on s else mixed) ≡ no_columns → ⊥
mixed-or-all true s e = let z : ◌≡◌ {A = ℕ} 0 1 = cc in absurd (omega arith)
mixed-or-all false s e = let z : ◌≡◌ {A = ℕ} 0 1 = cc in absurd (omega arith)

-- An argument without columns has any property of all its columns.
pub no-columns : (P : ℕ → Type 0) (g : ℕ → Side) (is : List ℕ) → common_side (map g is) ≡ no_columns → All P is
unfolding common_side
no-columns P g [] e = tt
no-columns P g (i ∷ is) e = absurd (mixed-or-all (all (same_side (g i)) (map g is)) (g i) e)

pub map-all : (P Q : ℕ → Type 0) → ((i : ℕ) → P i → Q i) → (is : List ℕ) → All P is → All Q is
map-all P Q f [] h = tt
map-all P Q f (i ∷ is) h = (f i h.0, map-all P Q f is h.1)

-- An argument of one side has the same value over that side's columns.
argument-value : (M : Meaning) (v : Valuation) (rs : List Record) (e : Expr) (s : Side) → side_of rs e ≡ all_on s
    → value M (frame_columns v rs) e ≡ value M (v s) (on_child rs e)
unfolding on_child frame_columns
argument-value M v rs e s h =
    map-value M (frame_columns v rs) (v s) (λ i. (record_at rs i).child) e
    (map-all (λ i. (record_at rs i).side ≡ s) (λ i. frame_columns v rs i ≡ v s (record_at rs i).child)
    (λ i p. ap (λ (t : Side). v t (record_at rs i).child) p) (columns_of e) (side-is rs e s h))

-- One without columns has the same value whatever columns are worth.
copied-value : (M : Meaning) (v : Valuation) (rs : List Record) (e : Expr) → side_of rs e ≡ no_columns
    → value M (frame_columns v rs) e ≡ value M (v no_side) e
unfolding side_of
copied-value M v rs e h = same-value M (frame_columns v rs) (v no_side) e (no-columns _ (λ i. (record_at rs i).side) (columns_of e) h)

-- ---- a match has its leaf's value

-- What an order says of the sides.
abbrev OrderIs : ArgumentSide → ArgumentSide → Order → Type 0
OrderIs a b left_right = (a ≡ all_on left) × (b ≡ all_on right)
OrderIs a b right_left = (a ≡ all_on right) × (b ≡ all_on left)
OrderIs a b no_order = Unit {0}

order_is : (a b : ArgumentSide) → OrderIs a b (order_of a b)
unfolding order_of is_side same_side
order_is no_columns b = tt
order_is mixed b = tt
order_is (all_on left) no_columns = tt
order_is (all_on left) (all_on left) = tt
order_is (all_on left) (all_on right) = (refl, refl)
order_is (all_on left) (all_on no_side) = tt
order_is (all_on left) mixed = tt
order_is (all_on right) no_columns = tt
order_is (all_on right) (all_on left) = (refl, refl)
order_is (all_on right) (all_on right) = tt
order_is (all_on right) (all_on no_side) = tt
order_is (all_on right) mixed = tt
order_is (all_on no_side) b = tt

module _ {match : Matcher} (test : Predicate → Bool) (M : Meaning) (fair : FairBy match M) (v : Valuation) (rs : List Record) (x : ℕ) where
  relation-match : (t : Relation) (a b : Expr) → MeansSame test M v rs x (ask_relation t a b)
      → (o : Order) → OrderIs (side_of rs a) (side_of rs b) o → Valued M v x (match_relation t (on_child rs a) (on_child rs b) o)
  unfolding match_relation predicate_value
  relation-match t a b h left_right s =
      h ∙ ap₂ (M.relation_value t) (argument-value M v rs a left s.0) (argument-value M v rs b right s.1)
  relation-match t a b h right_left s =
      h ∙ ap₂ (M.relation_value t) (argument-value M v rs a right s.0) (argument-value M v rs b left s.1)
      ∙ sym (fair.relation_inverse t _ _)
  relation-match t a b h no_order s = tt

  stored-match : (form : ℕ) (a b d : Expr) → MeansSame test M v rs x (ask_distance form a b d)
      → (side : Side) (bound : Expr) → value M (frame_columns v rs) d ≡ value M (v side) bound
      → (o : Order) → OrderIs (side_of rs a) (side_of rs b) o
      → Valued M v x (store_distance form side (on_child rs a) (on_child rs b) bound o)
  unfolding store_distance predicate_value
  stored-match form a b d h side bound e left_right s =
      rw (← (argument-value M v rs a left s.0), ← (argument-value M v rs b right s.1), ← e) h
  stored-match form a b d h side bound e right_left s =
      rw (← (argument-value M v rs a right s.0), ← (argument-value M v rs b left s.1), ← e) (h ∙ form-symmetric M fair form _ _ _)
  stored-match form a b d h side bound e no_order s = tt

  distance-match : (form : ℕ) (a b d : Expr) → MeansSame test M v rs x (ask_distance form a b d)
      → (z : ArgumentSide) → side_of rs d ≡ z → (o : Order) → OrderIs (side_of rs a) (side_of rs b) o
      → Valued M v x (match_distance rs form (on_child rs a) (on_child rs b) d z o)
  unfolding match_distance
  distance-match form a b d h no_columns e o s = stored-match form a b d h no_side d (copied-value M v rs d e) o s
  distance-match form a b d h (all_on left) e o s = stored-match form a b d h left (on_child rs d) (argument-value M v rs d left e) o s
  distance-match form a b d h (all_on right) e o s = stored-match form a b d h right (on_child rs d) (argument-value M v rs d right e) o s
  distance-match form a b d h (all_on no_side) e o s = tt
  distance-match form a b d h mixed e o s = tt

  knn-match : (k sp t : ℕ) (a b : Expr) → MeansSame test M v rs x (ask_knn k sp t a b) → (o : Order)
      → order_of (side_of rs a) (side_of rs b)
      ≡ o
      → OrderIs (side_of rs a) (side_of rs b) o → Valued M v x (passing test (match_knn k sp t (on_child rs a) (on_child rs b) o))
  unfolding match_request match_knn predicate_value negate passing
  knn-match k sp t a b h left_right e s =
      let p : Predicate = knn k sp left t (on_child rs a) (on_child rs b) in
      by-test (Valued M v x) (test p) (some p) none
      (λ yes. h left (on_child rs a) (on_child rs b)
      (ap (λ (o : Order). passing test (match_knn k sp t (on_child rs a) (on_child rs b) o)) e
      ∙ ap (λ (y : Bool). if y then some p else none) yes)
      ∙ ap₂ (λ (p q : ℕ). M.knn_value p q k sp t) (argument-value M v rs a left s.0) (argument-value M v rs b right s.1))
      (λ _. tt)
  knn-match k sp t a b h right_left e s =
      let p : Predicate = knn k sp right t (on_child rs a) (on_child rs b) in
      by-test (Valued M v x) (test p) (some p) none
      (λ yes. h right (on_child rs a) (on_child rs b)
      (ap (λ (o : Order). passing test (match_knn k sp t (on_child rs a) (on_child rs b) o)) e
      ∙ ap (λ (y : Bool). if y then some p else none) yes)
      ∙ ap₂ (λ (p q : ℕ). M.knn_value p q k sp t) (argument-value M v rs a right s.0) (argument-value M v rs b left s.1))
      (λ _. tt)
  knn-match k sp t a b h no_order e s = tt

  request-match : (q : Request) → MeansSame test M v rs x q → Valued M v x (passing test (match_request rs q))
  unfolding match_request passing
  request-match (ask_relation t a b) h =
      let o : Order = order_of (side_of rs a) (side_of rs b) in
      passing-is test (Valued M v x) tt (match_relation t (on_child rs a) (on_child rs b) o)
      (relation-match t a b h o (order_is (side_of rs a) (side_of rs b)))
  request-match (ask_distance form a b d) h =
      let o : Order = order_of (side_of rs a) (side_of rs b) in
      passing-is test (Valued M v x) tt (match_distance rs form (on_child rs a) (on_child rs b) d (side_of rs d) o)
      (distance-match form a b d h (side_of rs d) refl o (order_is (side_of rs a) (side_of rs b)))
  request-match (ask_knn k s t a b) h = knn-match k s t a b h _ refl (order_is (side_of rs a) (side_of rs b))
  request-match ask_nothing h = tt

pub leaf-match : (default : ℕ) (test : Predicate → Bool) (M : Meaning) → FairBy (only_if test (match_leaf_by default)) M → (v : Valuation)
    (rs : List Record) (e : Expr) → InRange (index_below (length rs)) e
    → Valued M v (value M (frame_columns v rs) e) (only_if test (match_leaf_by default) rs e)
unfolding match_leaf_by only_if
leaf-match default test M fair v rs e r =
    request-match test M fair v rs (value M (frame_columns v rs) e) (request_by default e) (request-means default test M fair v rs e r)
