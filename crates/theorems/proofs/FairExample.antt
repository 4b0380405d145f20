-- Points on a line are a fair meaning, by computation but for symmetry and for a KNN leaf's k, a literal whose value is its number.
use Rattle.std.specs.Prelude.{if◌then◌else◌}
use Prim.Native.Nat.{ℕ, ◌+◌, ◌-◌}
use native.Mathlib.Omega.{arith}
use mathlib.Core.Path.{◌≡◌, refl, sym, ap, ◌∙◌, subst}
use mathlib.Core.Bool.{Bool, true, false, ◌||◌}
use mathlib.Core.List.{List, [], ◌∷◌}
use mathlib.Core.Option.{Option, none, some}
use lib.Dec.{leb, ltb, eqb}
use lib.IntN.{ℤ, pos}
use borrow.Author.Tests.{eqb-true, eqb-false, eq-eqb, ne_eqb}
use Rattle.definitions.specs.Words.Basics.{given◌then◌else◌, ascii, same_name}
use Rattle.definitions.specs.Words.Expression.{Side, Relation, intersects, contains, within, covers, covered_by, touches, crosses, overlaps, equals, Expr, column, literal, and, binary, call, other, field, Exprs, nil, cons, Record, Predicate, knn, invert}
use Rattle.definitions.specs.Words.Literals.{signed, u32, number_u32, is_k, only_k}
use Rattle.definitions.specs.Words.Leaves.{relation_named}
use Rattle.definitions.specs.Filter.Match.{literal_u32, literal_k, literal_bool, knn_literals, knn_request_by, match_leaf_by}
use Rattle.definitions.specs.Filter.Extract.{Matcher}
use Rattle.definitions.specs.Meaning.Values.{Valuation, Meaning, value, frame_columns, FairBy, Fair}
use Rattle.definitions.specs.Filter.Settings.{default_settings, allowed, only_if, match_under}
use Rattle.definitions.specs.Claims.Settings.{FairMeaningUnder}
use Rattle.definitions.specs.Claims.Values.{FairMeaning, marked_frame, mark_copied, MarksStay}
use Rattle.definitions.proofs.Everything.{everything}
use Rattle.theorems.proofs.Tools.{by-test}
use Rattle.theorems.proofs.KnnLeaves.{Asked, Matched, leaf-matched}
use Rattle.theorems.proofs.OnlyIf.{passing-is}
use Rattle.theorems.proofs.SettingsLaws.{default-match}

-- ---- points on a line

-- A test as a truth value.
abbrev truth : Bool → ℕ
truth true = 1
truth false = 0

-- How far two points are from each other.
abbrev apart : ℕ → ℕ → ℕ
apart a b = (a - b) + (b - a)

-- Whether two points are at most so far apart.
abbrev near : (a b bound : ℕ) → ℕ
near a b bound = truth (leb (apart a b) bound)

-- A point contains and covers those up to it; every other relation holds of equal points.
related : Relation → ℕ → ℕ → ℕ
related contains a b = truth (leb b a)
related covers a b = truth (leb b a)
related within a b = truth (leb a b)
related covered_by a b = truth (leb a b)
related intersects a b = truth (eqb a b)
related touches a b = truth (eqb a b)
related crosses a b = truth (eqb a b)
related overlaps a b = truth (eqb a b)
related equals a b = truth (eqb a b)

-- Lt, LtEq, Gt, GtEq of numbers; any other operator is unknown.
compared : (operator : ℕ) → ℕ → ℕ → ℕ
compared operator a b =
    if eqb operator 1 then truth (ltb a b) else
    if eqb operator 2 then truth (leb a b) else
    if eqb operator 3 then truth (ltb b a) else
    if eqb operator 4 then truth (leb b a) else
    2

-- A function of the first two arguments; unknown without them.
of_two : (ℕ → ℕ → ℕ) → (arguments : List ℕ) → ℕ
of_two f [] = 2
of_two f (a ∷ []) = 2
of_two f (a ∷ b ∷ more) = f a b

-- A function of the first two arguments and the third, which is this number where it is missing.
of_three : (ℕ → ℕ → ℕ → ℕ) → (missing : ℕ) → (arguments : List ℕ) → ℕ
of_three f missing [] = 2
of_three f missing (a ∷ []) = 2
of_three f missing (a ∷ b ∷ []) = f a b missing
of_three f missing (a ∷ b ∷ c ∷ more) = f a b c

-- A function by its relation, else by its name; any other is unknown.
called : (default : ℕ) → Option Relation → (name : List ℕ) → (arguments : List ℕ) → ℕ
called d (some type) name arguments = of_two (related type) arguments
called d none name arguments =
    if same_name name (ascii "st_distance") then of_two apart arguments else
    if same_name name (ascii "st_dwithin") then of_three near 0 arguments else
    if same_name name (ascii "st_knn") then of_three near d arguments else
    2

pub points : (default : ℕ) → Meaning
points d = record {
  literal_value = λ type bytes. bytes;
  binary_value = compared;
  call_value = λ name arguments. called d (relation_named name) name arguments;
  other_value = λ tag children. 2;
  field_value = λ bits tag. 2;
  relation_value = related;
  distance_value = apart;
  dwithin_value = near;
  knn_value = λ query object k spheroid ties. near query object k;
}

-- ---- symmetry

equal-symmetric : (a b : ℕ) (t : Bool) → eqb a b ≡ t → truth (eqb b a) ≡ truth t
equal-symmetric a b true e = ap truth (eq-eqb b a (sym (eqb-true a b e)))
equal-symmetric a b false e = ap truth (ne_eqb b a (λ q. eqb-false a b e (sym q)))

related-inverse : (type : Relation) (a b : ℕ) → related (invert type) b a ≡ related type a b
unfolding related invert
related-inverse contains a b = refl
related-inverse covers a b = refl
related-inverse within a b = refl
related-inverse covered_by a b = refl
related-inverse intersects a b = equal-symmetric a b (eqb a b) refl
related-inverse touches a b = equal-symmetric a b (eqb a b) refl
related-inverse crosses a b = equal-symmetric a b (eqb a b) refl
related-inverse overlaps a b = equal-symmetric a b (eqb a b) refl
related-inverse equals a b = equal-symmetric a b (eqb a b) refl

apart-symmetric : (a b : ℕ) → apart a b ≡ apart b a
apart-symmetric a b = omega arith

-- ---- a KNN leaf

-- What is read off a literal is its value.
abbrev Has : ℕ → Option ℕ → Type 0
Has v none = Unit {0}
Has v (some k) = v ≡ k

u32-has : (n : ℕ) → Has n (u32 (pos n))
unfolding u32
u32-has n = by-test (Has n) (leb n 4294967295) (some n) none (λ _. refl) (λ _. tt)

signed-has : (bytes : ℕ) → Has bytes (u32 (signed bytes))
unfolding signed
signed-has bytes =
    by-test (λ (z : ℤ). Has bytes (u32 z)) (ltb bytes 9223372036854775808) (pos bytes) _ (λ _. u32-has bytes) (λ _. unfold u32 in tt)

literal-has : (d : ℕ) (columns : ℕ → ℕ) (e : Expr) → Has (value (points d) columns e) (literal_u32 e)
unfolding literal_u32 number_u32 value points
literal-has d columns (literal type bytes) =
    by-test (Has bytes) (eqb type 2 || eqb type 3) _ _ (λ _. signed-has bytes)
    (λ _. by-test (Has bytes) (eqb type 4 || eqb type 5) _ _ (λ _. u32-has bytes) (λ _. tt))
literal-has d columns (column index tag) = tt
literal-has d columns (and l r) = tt
literal-has d columns (binary operator l r) = tt
literal-has d columns (call name arguments) = tt
literal-has d columns (other tag children) = tt
literal-has d columns (field bits tag) = tt

k-has : (v : ℕ) (n : Option ℕ) → Has v n → Has v (given n then only_k else none)
unfolding only_k
k-has v none h = tt
k-has v (some k) h = by-test (Has v) (is_k k) (some k) none (λ _. h) (λ _. tt)

-- With k read off a literal of this value, KNN of two points is asked for.
literals-asked : (x y z v : ℕ) (k spheroid ties : Option ℕ) (a b : Expr) → Has v k → x ≡ near y z v
    → Asked (λ k spheroid ties. x ≡ near y z k) (knn_literals k spheroid ties a b)
unfolding knn_literals
literals-asked x y z v none spheroid ties a b h e = tt
literals-asked x y z v (some k) none ties a b h e = tt
literals-asked x y z v (some k) (some spheroid) none a b h e = tt
literals-asked x y z v (some k) (some spheroid) (some ties) a b h e = e ∙ ap (near y z) h

module _ (d : ℕ) (columns : ℕ → ℕ) (a b : Expr) where
  -- A call of these two and further arguments has the value of KNN with this k.
  abbrev IsNear : (name : List ℕ) → (more : Exprs) → (k spheroid ties : ℕ) → Type 0
  IsNear name more k spheroid ties =
      value (points d) columns (call name (cons a (cons b more))) ≡ near (value (points d) columns a) (value (points d) columns b) k

  k-asked : (k : Expr) (more : Exprs) (spheroid ties : Option ℕ)
      → Asked (IsNear (ascii "st_knn") (cons k more)) (knn_literals (literal_k k) spheroid ties a b)
  unfolding points called of_three everything
  k-asked k more spheroid ties =
      let v = value (points d) columns k in
      literals-asked _ _ _ v (literal_k k) spheroid ties a b (k-has v (literal_u32 k) (literal-has d columns k)) refl

  knn-asked : (more : Exprs) → Asked (IsNear (ascii "st_knn") more) (knn_request_by d (cons a (cons b more)))
  unfolding points called of_three everything
  knn-asked nil = refl
  knn-asked (cons k nil) = k-asked k nil (some 0) (some 2)
  knn-asked (cons k (cons s nil)) = k-asked k (cons s nil) (literal_bool s) (some 2)
  knn-asked (cons k (cons s (cons t nil))) = k-asked k (cons s (cons t nil)) (literal_bool s) (literal_bool t)
  knn-asked (cons k (cons s (cons t (cons u more)))) = tt

points-knn : (d : ℕ) (test : Predicate → Bool) (v : Valuation) (rs : List Record) (name : List ℕ) (a b : Expr) (more : Exprs)
    → (k spheroid ties : ℕ) (probe : Side) (l r : Expr)
    → only_if test (match_leaf_by d) rs (call name (cons a (cons b more))) ≡ some (knn k spheroid probe ties l r)
    → value (points d) (frame_columns v rs) (call name (cons a (cons b more)))
    ≡ near (value (points d) (frame_columns v rs) a) (value (points d) (frame_columns v rs) b) k
unfolding only_if
points-knn d test v rs name a b more k spheroid ties probe l r e =
    let f : ℕ → ℕ = frame_columns v rs in
    subst (Matched (IsNear d f a b name more)) e
    (passing-is test (Matched (IsNear d f a b name more)) tt (match_leaf_by d rs (call name (cons a (cons b more))))
    (leaf-matched (IsNear d f a b name more) d rs name a b more (λ n.
    subst (λ (x : List ℕ). Asked (IsNear d f a b x more) (knn_request_by d (cons a (cons b more)))) (sym n) (knn-asked d f a b more))))

-- ---- the meaning is fair

points-fair : (d : ℕ) (test : Predicate → Bool) → FairBy (only_if test (match_leaf_by d)) (points d)
unfolding points called of_two of_three everything
points-fair d test = record {
  relation_call = λ name type e a b more. ap (λ (r : Option Relation). called d r name (a ∷ b ∷ more)) e;
  relation_inverse = related-inverse;
  distance_call = λ a b more. refl;
  distance_symmetric = apart-symmetric;
  dwithin_call = λ a b bound more. refl;
  dwithin_symmetric = λ a b bound. ap (λ (d : ℕ). truth (leb d bound)) (apart-symmetric a b);
  knn_leaf = λ v rs name a b more within. points-knn d test v rs name a b more;
}

points-today : Fair (points 1)
unfolding match_under default_settings
points-today = subst (λ (m : Matcher). FairBy m (points 1)) default-match (points-fair 1 (allowed default_settings))

pub fair-points : FairMeaning
unfolding points related
fair-points = (points 1, points-today, refl, refl, refl, refl, refl, refl)

-- Under all settings there is one.
pub fair-under : FairMeaningUnder
unfolding points related match_under
fair-under S = (points S.default_k, points-fair S.default_k (allowed S), refl, refl, refl, refl, refl, refl)

-- ---- mark columns

-- Each column's value is its child index.
by_child : Valuation
by_child side child = child

-- The frame reads the mark column's child index 9: two points 5 apart are near, and it is true. The copied predicate reads the column
-- number 2, and is false.
pub marks-left : MarksStay
unfolding everything points called of_three marked_frame mark_copied by_child
marks-left = (refl, (points 1, points-today, by_child, refl, refl))
