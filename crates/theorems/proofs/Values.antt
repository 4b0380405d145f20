-- And may be regrouped and exchanged, so a leaf may be taken out; and renumbered columns that mean the same have the same value.
use Rattle.std.specs.Prelude.{if◌then◌else◌}
use Prim.Native.Nat.{ℕ, zero, suc}
use mathlib.Core.Path.{◌≡◌, refl, sym, ap, ap₂, ◌∙◌}
use mathlib.Core.Bool.{Bool, true, false}
use mathlib.Core.List.{List, ◌∷◌}
use mathlib.Core.Option.{Option, none, some}
use lib.Dec.{eqb}
use Rattle.definitions.specs.Words.Expression.{Expr, column, literal, and, binary, call, other, field, Exprs, nil, cons}
use Rattle.definitions.specs.Words.References.{columns_of, columns_of_all, map_columns, map_columns_all}
use Rattle.definitions.specs.Filter.Extract.{and_left, and_right, Matcher}
use Rattle.definitions.specs.Bytes.Good.{All}
use Rattle.definitions.specs.Meaning.Values.{and_value, Meaning, value, values, distance_by_form, FairBy}
use Rattle.theorems.proofs.Columns.{all-left, all-right}
use Rattle.theorems.proofs.Taken.{Taken, here, in_left, in_right}

-- ---- And

pub and-value-comm : (a b : ℕ) → and_value a b ≡ and_value b a
unfolding and_value
and-value-comm zero zero = refl
and-value-comm zero (suc b) = refl
and-value-comm (suc a) zero = refl
and-value-comm (suc zero) (suc zero) = refl
and-value-comm (suc zero) (suc (suc b)) = refl
and-value-comm (suc (suc a)) (suc zero) = refl
and-value-comm (suc (suc a)) (suc (suc b)) = refl

pub and-value-assoc : (a b c : ℕ) → and_value (and_value a b) c ≡ and_value a (and_value b c)
unfolding and_value
and-value-assoc zero b c = refl
and-value-assoc (suc a) zero c = refl
and-value-assoc (suc zero) (suc zero) zero = refl
and-value-assoc (suc zero) (suc zero) (suc zero) = refl
and-value-assoc (suc zero) (suc zero) (suc (suc c)) = refl
and-value-assoc (suc zero) (suc (suc b)) zero = refl
and-value-assoc (suc zero) (suc (suc b)) (suc c) = refl
and-value-assoc (suc (suc a)) (suc b) zero = refl
and-value-assoc (suc (suc a)) (suc zero) (suc zero) = refl
and-value-assoc (suc (suc a)) (suc zero) (suc (suc c)) = refl
and-value-assoc (suc (suc a)) (suc (suc b)) (suc c) = refl

-- ---- removing a leaf keeps the And's value

-- A value, ANDed with that of an optional rest.
unfoldable pub and_rest : Meaning → (ℕ → ℕ) → ℕ → Option Expr → ℕ
and_rest M f x none = x
and_rest M f x (some r) = and_value x (value M f r)

left-rest : (M : Meaning) (f : ℕ → ℕ) (x : ℕ) (rest : Option Expr) (r : Expr)
    → and_value (and_rest M f x rest) (value M f r) ≡ and_value x (value M f (and_left rest r))
unfolding and_rest and_left value
left-rest M f x none r = refl
left-rest M f x (some l) r = and-value-assoc x (value M f l) (value M f r)

right-rest : (M : Meaning) (f : ℕ → ℕ) (x : ℕ) (l : Expr) (rest : Option Expr)
    → and_value (value M f l) (and_rest M f x rest) ≡ and_value x (value M f (and_right l rest))
unfolding and_rest and_right value
right-rest M f x l none = and-value-comm (value M f l) x
right-rest M f x l (some r) =
    sym (and-value-assoc (value M f l) x (value M f r))
    ∙ ap (λ (y : ℕ). and_value y (value M f r)) (and-value-comm (value M f l) x)
    ∙ and-value-assoc x (value M f l) (value M f r)

pub taken-value : (M : Meaning) (f : ℕ → ℕ) {e leaf : Expr} {rest : Option Expr} → Taken e leaf rest
    → value M f e ≡ and_rest M f (value M f leaf) rest
unfolding value and_rest
taken-value M f here = refl
taken-value M f (in_left {leaf = leaf} {rest = rest} r t) =
    ap (λ (y : ℕ). and_value y (value M f r)) (taken-value M f t) ∙ left-rest M f (value M f leaf) rest r
taken-value M f (in_right {leaf = leaf} {rest = rest} l t) =
    ap (λ (y : ℕ). and_value (value M f l) y) (taken-value M f t) ∙ right-rest M f (value M f leaf) l rest

-- ---- renumbered columns that mean the same have the same value

mutual
  unfolding value map_columns columns_of

  pub map-value : (M : Meaning) (f g : ℕ → ℕ) (h : ℕ → ℕ) (e : Expr) → All (λ i. f i ≡ g (h i)) (columns_of e)
      → value M f e ≡ value M g (map_columns h e)
  map-value M f g h (column i t) = λ a. a.0
  map-value M f g h (literal type v) = λ a. refl
  map-value M f g h (and l r) = λ a.
      ap₂ and_value (map-value M f g h l (all-left (λ i. f i ≡ g (h i)) (columns_of l) (columns_of r) a))
      (map-value M f g h r (all-right (λ i. f i ≡ g (h i)) (columns_of l) (columns_of r) a))
  map-value M f g h (binary o l r) = λ a.
      ap₂ (M.binary_value o) (map-value M f g h l (all-left (λ i. f i ≡ g (h i)) (columns_of l) (columns_of r) a))
      (map-value M f g h r (all-right (λ i. f i ≡ g (h i)) (columns_of l) (columns_of r) a))
  map-value M f g h (call name es) = λ a. ap (M.call_value name) (map-values M f g h es a)
  map-value M f g h (other tag es) = λ a. ap (M.other_value tag) (map-values M f g h es a)
  map-value M f g h (field b t) = λ a. refl

  map-values : (M : Meaning) (f g : ℕ → ℕ) (h : ℕ → ℕ) (es : Exprs) → All (λ i. f i ≡ g (h i)) (columns_of_all es)
      → values M f es ≡ values M g (map_columns_all h es)
  map-values M f g h nil = λ a. refl
  map-values M f g h (cons e es) = λ a.
      ap₂ (λ (x : ℕ) (y : List ℕ). x ∷ y) (map-value M f g h e (all-left (λ i. f i ≡ g (h i)) (columns_of e) (columns_of_all es) a))
      (map-values M f g h es (all-right (λ i. f i ≡ g (h i)) (columns_of e) (columns_of_all es) a))

mutual
  unfolding value columns_of

  pub same-value : (M : Meaning) (f g : ℕ → ℕ) (e : Expr) → All (λ i. f i ≡ g i) (columns_of e) → value M f e ≡ value M g e
  same-value M f g (column i t) = λ a. a.0
  same-value M f g (literal type v) = λ a. refl
  same-value M f g (and l r) = λ a.
      ap₂ and_value (same-value M f g l (all-left (λ i. f i ≡ g i) (columns_of l) (columns_of r) a))
      (same-value M f g r (all-right (λ i. f i ≡ g i) (columns_of l) (columns_of r) a))
  same-value M f g (binary o l r) = λ a.
      ap₂ (M.binary_value o) (same-value M f g l (all-left (λ i. f i ≡ g i) (columns_of l) (columns_of r) a))
      (same-value M f g r (all-right (λ i. f i ≡ g i) (columns_of l) (columns_of r) a))
  same-value M f g (call name es) = λ a. ap (M.call_value name) (same-values M f g es a)
  same-value M f g (other tag es) = λ a. ap (M.other_value tag) (same-values M f g es a)
  same-value M f g (field b t) = λ a. refl

  same-values : (M : Meaning) (f g : ℕ → ℕ) (es : Exprs) → All (λ i. f i ≡ g i) (columns_of_all es) → values M f es ≡ values M g es
  same-values M f g nil = λ a. refl
  same-values M f g (cons e es) = λ a.
      ap₂ (λ (x : ℕ) (y : List ℕ). x ∷ y) (same-value M f g e (all-left (λ i. f i ≡ g i) (columns_of e) (columns_of_all es) a))
      (same-values M f g es (all-right (λ i. f i ≡ g i) (columns_of e) (columns_of_all es) a))

-- ---- distances

if-same : (b : Bool) (x x' y y' : ℕ) → x ≡ x' → y ≡ y' → (if b then x else y) ≡ (if b then x' else y')
if-same true x x' y y' e f = e
if-same false x x' y y' e f = f

-- A distance is symmetric in its geometries, whatever its form.
pub form-symmetric : {match : Matcher} (M : Meaning) → FairBy match M → (form a b d : ℕ) → distance_by_form M form a b d
    ≡ distance_by_form M form b a d
unfolding distance_by_form
form-symmetric M fair form a b d =
    let s : M.distance_value a b ≡ M.distance_value b a = fair.distance_symmetric a b in
    if-same (eqb form 0) _ _ _ _ (fair.dwithin_symmetric a b d)
    (if-same (eqb form 1) _ _ _ _ (ap (λ (x : ℕ). M.binary_value 1 x d) s)
    (if-same (eqb form 2) _ _ _ _ (ap (λ (x : ℕ). M.binary_value 2 x d) s)
    (if-same (eqb form 3) _ _ _ _ (ap (M.binary_value 3 d) s) (ap (M.binary_value 4 d) s))))
