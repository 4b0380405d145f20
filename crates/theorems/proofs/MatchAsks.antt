-- What a leaf asks for has the leaf's value, in a fair meaning.
use Prim.Native.Nat.{ℕ}
use mathlib.Core.Path.{◌≡◌, refl, sym, ap, ◌∙◌, subst}
use mathlib.Core.Bool.{Bool, true, false, ◌||◌}
use mathlib.Core.List.{List}
use mathlib.Core.Option.{Option, none, some}
use lib.ListN.{length}
use lib.Dec.{eqb}
use borrow.Author.Tests.{eqb-true}
use Rattle.definitions.specs.Words.Basics.{ascii, same_name}
use Rattle.definitions.specs.Words.Expression.{Side, Relation, Expr, column, literal, and, binary, call, other, field, Exprs, nil, cons, Record, Predicate, knn}
use Rattle.definitions.specs.Words.Leaves.{relation_named, Comparison, compares, no_comparison, comparison, distance_arguments}
use Rattle.definitions.specs.Bytes.Decode.{index_below}
use Rattle.definitions.specs.Filter.Match.{Request, ask_relation, ask_distance, ask_knn, ask_nothing, relation_request, dwithin_request, knn_literals, knn_request_by, call_request_by, distance_request, comparison_request, request_by, match_request, match_leaf_by}
use Rattle.definitions.specs.Bytes.Good.{InRange, InRangeAll}
use Rattle.definitions.specs.Meaning.Values.{Valuation, Meaning, value, values, frame_columns, distance_by_form, FairBy}
use Rattle.definitions.specs.Filter.Settings.{passing, only_if}
use Rattle.theorems.proofs.Tools.{by-test, same-name}

-- ---- what a leaf asks for has the leaf's value

-- (Of KNN only where it matches: nothing is asked of calls that do not.)
abbrev pub MeansSame : (Predicate → Bool) → Meaning → Valuation → List Record → (leaf : ℕ) → Request → Type 0
MeansSame test M v rs x (ask_relation t a b) = x ≡ M.relation_value t (value M (frame_columns v rs) a) (value M (frame_columns v rs) b)
MeansSame test M v rs x (ask_distance form a b d) =
    x ≡ distance_by_form M form (value M (frame_columns v rs) a) (value M (frame_columns v rs) b) (value M (frame_columns v rs) d)
MeansSame test M v rs x (ask_knn k s t a b) =
    (probe : Side) (l r : Expr) → passing test (match_request rs (ask_knn k s t a b)) ≡ some (knn k s probe t l r)
    → x ≡ M.knn_value (value M (frame_columns v rs) a) (value M (frame_columns v rs) b) k s t
MeansSame test M v rs x ask_nothing = Unit {0}

-- A KNN call asks for KNN of its first two arguments, or for nothing.
abbrev FirstTwo : Exprs → Request → Type 0
FirstTwo es (ask_relation t a b) = ⊥
FirstTwo es (ask_distance form a b d) = ⊥
FirstTwo es (ask_knn k s t a b) = (more : Exprs) × (es ≡ cons a (cons b more))
FirstTwo es ask_nothing = Unit {0}

first-two-literals : (k s t : Option ℕ) (a b : Expr) (more : Exprs) → FirstTwo (cons a (cons b more)) (knn_literals k s t a b)
unfolding knn_literals
first-two-literals none s t a b more = tt
first-two-literals (some k) none t a b more = tt
first-two-literals (some k) (some s) none a b more = tt
first-two-literals (some k) (some s) (some t) a b more = (more, refl)

first_two : (default : ℕ) (es : Exprs) → FirstTwo es (knn_request_by default es)
unfolding knn_request_by
first_two default nil = tt
first_two default (cons a nil) = tt
first_two default (cons a (cons b nil)) = (nil, refl)
first_two default (cons a (cons b (cons k nil))) = first-two-literals _ _ _ a b _
first_two default (cons a (cons b (cons k (cons s nil)))) = first-two-literals _ _ _ a b _
first_two default (cons a (cons b (cons k (cons s (cons t nil))))) = first-two-literals _ _ _ a b _
first_two default (cons a (cons b (cons k (cons s (cons t (cons x more)))))) = tt

-- A number that equals one of two.
one-of-by : (P : ℕ → Type 0) (o p q : ℕ) (b : Bool) → eqb o p ≡ b → P p → P q → (b || eqb o q) ≡ true → P o
one-of-by P o p q true e x y h = subst P (sym (eqb-true o p e)) x
one-of-by P o p q false e x y h = subst P (sym (eqb-true o q h)) y

one_of : (P : ℕ → Type 0) (o p q : ℕ) → P p → P q → (eqb o p || eqb o q) ≡ true → P o
one_of P o p q x y h = one-of-by P o p q (eqb o p) refl x y h

form-left : (M : Meaning) (o a b d : ℕ) → (eqb o 1 || eqb o 2) ≡ true
    → M.binary_value o (M.distance_value a b) d ≡ distance_by_form M o a b d
unfolding distance_by_form
form-left M o a b d = one_of (λ o. M.binary_value o (M.distance_value a b) d ≡ distance_by_form M o a b d) o 1 2 refl refl

form-right : (M : Meaning) (o a b d : ℕ) → (eqb o 3 || eqb o 4) ≡ true
    → M.binary_value o d (M.distance_value a b) ≡ distance_by_form M o a b d
unfolding distance_by_form
form-right M o a b d = one_of (λ o. M.binary_value o d (M.distance_value a b) ≡ distance_by_form M o a b d) o 3 4 refl refl

-- A leaf that is an `st_knn` call asks what its arguments ask.
knn-leaf : (default : ℕ) (rs : List Record) (es : Exprs)
    → match_leaf_by default rs (call (ascii "st_knn") es) ≡ match_request rs (knn_request_by default es)
unfolding match_leaf_by request_by call_request_by same_name ascii
knn-leaf default rs es = refl

module _ (default : ℕ) (test : Predicate → Bool) (M : Meaning) (fair : FairBy (only_if test (match_leaf_by default)) M) (v : Valuation)
    (rs : List Record) where
  abbrev f : ℕ → ℕ
  f = frame_columns v rs

  relation-means : (name : List ℕ) (t : Option Relation) (es : Exprs) → relation_named name ≡ t
      → MeansSame test M v rs (M.call_value name (values M f es)) (relation_request t es)
  unfolding relation_request value
  relation-means name none es e = tt
  relation-means name (some t) nil e = tt
  relation-means name (some t) (cons a nil) e = tt
  relation-means name (some t) (cons a (cons b more)) e = fair.relation_call name t e (value M f a) (value M f b) (values M f more)

  dwithin-means : (es : Exprs) → MeansSame test M v rs (M.call_value (ascii "st_dwithin") (values M f es)) (dwithin_request es)
  unfolding dwithin_request value distance_by_form
  dwithin-means nil = tt
  dwithin-means (cons a nil) = tt
  dwithin-means (cons a (cons b nil)) = tt
  dwithin-means (cons a (cons b (cons d more))) = fair.dwithin_call (value M f a) (value M f b) (value M f d) (values M f more)

  knn-means : (es : Exprs) → InRangeAll (index_below (length rs)) es → (q : Request) → knn_request_by default es ≡ q → FirstTwo es q
      → MeansSame test M v rs (M.call_value (ascii "st_knn") (values M f es)) q
  unfolding value only_if
  knn-means es within (ask_relation t a b) e o = absurd o
  knn-means es within (ask_distance form a b d) e o = absurd o
  knn-means es within (ask_knn k s t a b) e o = λ probe l r m.
      let of-two : passing test (match_leaf_by default rs (call (ascii "st_knn") (cons a (cons b o.0)))) ≡ some (knn k s probe t l r) =
      ap (passing test) (knn-leaf default rs (cons a (cons b o.0))
      ∙ ap (match_request rs) (ap (knn_request_by default) (sym o.1) ∙ e)) ∙ m in
      ap (λ (x : Exprs). M.call_value (ascii "st_knn") (values M f x)) o.1
      ∙ fair.knn_leaf v rs (ascii "st_knn") a b o.0 (subst (InRangeAll (index_below (length rs))) o.1 within) k s t probe l r of-two
  knn-means es within ask_nothing e o = tt

  call-means : (name : List ℕ) (es : Exprs) → InRangeAll (index_below (length rs)) es
      → MeansSame test M v rs (M.call_value name (values M f es)) (call_request_by default name es)
  unfolding call_request_by
  call-means name es within =
      by-test (MeansSame test M v rs (M.call_value name (values M f es))) (same_name name (ascii "st_knn")) (knn_request_by default es) _
      (λ e. subst (λ (x : List ℕ). MeansSame test M v rs (M.call_value x (values M f es)) (knn_request_by default es))
      (sym (same-name name (ascii "st_knn") e)) (knn-means es within (knn_request_by default es) refl (first_two default es)))
      (λ _. by-test (MeansSame test M v rs (M.call_value name (values M f es))) (same_name name (ascii "st_dwithin")) (dwithin_request es)
      (relation_request (relation_named name) es)
      (λ e. subst (λ (x : List ℕ). MeansSame test M v rs (M.call_value x (values M f es)) (dwithin_request es))
      (sym (same-name name (ascii "st_dwithin") e)) (dwithin-means es))
      (λ e. relation-means name (relation_named name) es refl))

  -- The arguments of an `st_distance` call that is measured.
  arguments-means : (x o : ℕ) (d : Expr) (es : Exprs)
      → ((a b : Expr) → M.call_value (ascii "st_distance") (values M f es) ≡ M.distance_value (value M f a) (value M f b)
      → x ≡ distance_by_form M o (value M f a) (value M f b) (value M f d))
      → MeansSame test M v rs x (distance_request o d (some es))
  unfolding distance_request value
  arguments-means x o d nil h = tt
  arguments-means x o d (cons a nil) h = tt
  arguments-means x o d (cons a (cons b more)) h = h a b (fair.distance_call (value M f a) (value M f b) (values M f more))

  measured-means : (x o : ℕ) (m d : Expr)
      → ((a b : Expr) → value M f m ≡ M.distance_value (value M f a) (value M f b)
      → x ≡ distance_by_form M o (value M f a) (value M f b) (value M f d))
      → MeansSame test M v rs x (distance_request o d (distance_arguments m))
  unfolding distance_arguments distance_request value
  measured-means x o (column i t) d h = tt
  measured-means x o (literal type v) d h = tt
  measured-means x o (and l r) d h = tt
  measured-means x o (binary p l r) d h = tt
  measured-means x o (call name es) d h =
      by-test (λ (y : Option Exprs). MeansSame test M v rs x (distance_request o d y)) (same_name name (ascii "st_distance")) (some es) none
      (λ e. arguments-means x o d es
      (λ a b p. h a b (ap (λ (y : List ℕ). M.call_value y (values M f es)) (same-name name (ascii "st_distance") e) ∙ p)))
      (λ e. tt)
  measured-means x o (other tag es) d h = tt
  measured-means x o (field b t) d h = tt

  comparison-means : (o : ℕ) (l r : Expr)
      → MeansSame test M v rs (M.binary_value o (value M f l) (value M f r)) (comparison_request o (comparison o l r))
  unfolding comparison comparison_request
  comparison-means o l r =
      by-test (λ (c : Comparison). MeansSame test M v rs (M.binary_value o (value M f l) (value M f r)) (comparison_request o c))
      (eqb o 1 || eqb o 2) (compares l r) _
      (λ e. measured-means _ o l r (λ a b p. ap (λ (y : ℕ). M.binary_value o y (value M f r)) p ∙ form-left M o _ _ _ e))
      (λ _. by-test (λ (c : Comparison). MeansSame test M v rs (M.binary_value o (value M f l) (value M f r)) (comparison_request o c))
      (eqb o 3 || eqb o 4) (compares r l) no_comparison
      (λ e. measured-means _ o r l (λ a b p. ap (λ (y : ℕ). M.binary_value o (value M f l) y) p ∙ form-right M o _ _ _ e))
      (λ e. tt))

  pub request-means : (e : Expr) → InRange (index_below (length rs)) e → MeansSame test M v rs (value M f e) (request_by default e)
  unfolding request_by value
  request-means (column i t) within = tt
  request-means (literal type v) within = tt
  request-means (and l r) within = tt
  request-means (binary o l r) within = comparison-means o l r
  request-means (call name es) within = call-means name es within.4
  request-means (other tag es) within = tt
  request-means (field b t) within = tt
