-- Relations and distances do not depend on the default k of a KNN call of two arguments.
use Rattle.std.specs.Prelude.{if◌then◌else◌, Ok, Err}
use Prim.Native.Nat.{ℕ}
use mathlib.Core.Path.{◌≡◌, refl, sym, ap, ◌∙◌, subst}
use mathlib.Core.Bool.{Bool, true, false, false≢true}
use mathlib.Core.List.{List}
use mathlib.Core.Logic.{◌⊎◌, inl, inr}
use mathlib.Core.Option.{some, some-ne-none}
use Rattle.definitions.specs.Words.Basics.{given◌then◌else◌, ascii, same_name}
use Rattle.definitions.specs.Words.Expression.{Side, Expr, column, literal, and, binary, call, other, field, Exprs, nil, cons, Record, Predicate, knn}
use Rattle.definitions.specs.Filter.Match.{Request, ask_knn, knn_request_by, call_request_by, request_by, Order, left_right, right_left, no_order, order_of, side_of, on_child, match_knn, match_request, match_leaf_by}
use Rattle.definitions.specs.Filter.Extract.{is_knn}
use Rattle.leaf_matching.specs.Matches.{Matching, MatchingIs, LeafMatchingBy}
use Rattle.leaf_pick.specs.Picks.{is_other}
use Rattle.leaf_matching.specs.declared.matching.NoMatch.TheVariants.{Unmatched, NotAsked}

-- Two requests are the same, or the KNN of two geometries with different k.
abbrev Alike : (d d' : ℕ) → Request → Request → Type 0
Alike d d' x y = (x ≡ y) ⊎ ((a : Expr) × (b : Expr) × (x ≡ ask_knn d 0 2 a b) × (y ≡ ask_knn d' 0 2 a b))

module _ (d d' : ℕ) where
  knn-alike : (ts : Exprs) → Alike d d' (knn_request_by d ts) (knn_request_by d' ts)
  unfolding knn_request_by
  knn-alike nil = inl refl
  knn-alike (cons a nil) = inl refl
  knn-alike (cons a (cons b nil)) = inr (a, b, refl, refl)
  knn-alike (cons a (cons b (cons k nil))) = inl refl
  knn-alike (cons a (cons b (cons k (cons s nil)))) = inl refl
  knn-alike (cons a (cons b (cons k (cons s (cons t nil))))) = inl refl
  knn-alike (cons a (cons b (cons k (cons s (cons t (cons x more)))))) = inl refl

  by_name : (b : Bool) (x y z : Request) → Alike d d' x y → Alike d d' (if b then x else z) (if b then y else z)
  by_name true x y z h = h
  by_name false x y z h = inl refl

  asks-alike : (t : Expr) → Alike d d' (request_by d t) (request_by d' t)
  unfolding request_by call_request_by
  asks-alike (column i g) = inl refl
  asks-alike (literal y v) = inl refl
  asks-alike (and l r) = inl refl
  asks-alike (binary o l r) = inl refl
  asks-alike (call name ts) = by_name (same_name name (ascii "st_knn")) (knn_request_by d ts) (knn_request_by d' ts) _ (knn-alike ts)
  asks-alike (other g ts) = inl refl
  asks-alike (field b g) = inl refl

  -- KNN is of no other kind, whatever its k.
  found-knn : (q : Predicate) (k : ℕ) (probe : Side) (a b : Expr) → some (knn k 0 probe 2 a b) ≡ some q → is_other q ≡ true → ⊥
  unfolding is_knn
  found-knn q k probe a b e h = let same : q ≡ knn k 0 probe 2 a b = cc in false≢true (sym (ap is_other same) ∙ h)

  module _ (s : List ℕ) (records : List Record) where
    knn-other : (a b : Expr) (o : Order) (r : Matching) → MatchingIs is_other s records (match_knn d 0 2 a b o) r
        → MatchingIs is_other s records (match_knn d' 0 2 a b o) r
    unfolding match_knn is_knn
    knn-other a b no_order r m = m
    knn-other a b left_right (Ok p) m = absurd (found-knn m.q d _ a b m.is m.passes)
    knn-other a b left_right (Err Unmatched) m = absurd (some-ne-none _ m)
    knn-other a b left_right (Err NotAsked) m = refl
    knn-other a b right_left (Ok p) m = absurd (found-knn m.q d _ a b m.is m.passes)
    knn-other a b right_left (Err Unmatched) m = absurd (some-ne-none _ m)
    knn-other a b right_left (Err NotAsked) m = refl

    request-other : (x y : Request) → Alike d d' x y → (r : Matching) → MatchingIs is_other s records (match_request records x) r
        → MatchingIs is_other s records (match_request records y) r
    unfolding match_request
    request-other x y (inl e) r m = subst (λ (q : Request). MatchingIs is_other s records (match_request records q) r) e m
    request-other x y (inr (a, b, e, f)) r m =
        subst (λ (q : Request). MatchingIs is_other s records (match_request records q) r) (sym f)
        (knn-other (on_child records a) (on_child records b) (order_of (side_of records a) (side_of records b)) r
        (subst (λ (q : Request). MatchingIs is_other s records (match_request records q) r) e m))

    pub other-default : (t : Expr) (r : Matching) → LeafMatchingBy d is_other s r records t
        → LeafMatchingBy d' is_other s r records t
    unfolding match_leaf_by
    other-default t r m = request-other (request_by d t) (request_by d' t) (asks-alike t) r m
