-- Leaves whose columns are renumbered, over records that are the same there, match as they did.
use Rattle.std.specs.Prelude.{if◌then◌else◌}
use Prim.Native.Nat.{ℕ, ◌<◌}
use mathlib.Core.Path.{◌≡◌, refl, sym, ap, ap₂, ◌∙◌}
use mathlib.Core.Bool.{Bool, true, false}
use mathlib.Core.List.{List, [], ◌∷◌, ◌++◌, map, map-append}
use mathlib.Core.Option
use mathlib.Core.Option.{Option, none, some}
use lib.Dec.{ltb}
use borrow.Author.Tests.{ltb-true}
use Rattle.definitions.specs.Words.Basics.{ascii, same_name}
use Rattle.definitions.specs.Words.Expression.{Side, left, right, no_side, Relation, Expr, column, literal, and, binary, call, other, field, Exprs, nil, cons, Record}
use Rattle.definitions.specs.Words.Leaves.{relation_named, Comparison, compares, no_comparison, comparison, distance_arguments}
use Rattle.definitions.specs.Bytes.Decode.{index_below}
use Rattle.definitions.specs.Words.References.{columns_of, columns_of_all, map_columns, map_columns_all, record_at}
use Rattle.definitions.specs.Filter.Match.{ArgumentSide, no_columns, all_on, mixed, common_side, side_of, on_child, Order, literal_u32, literal_k, literal_bool, Request, ask_relation, ask_distance, ask_knn, ask_nothing, relation_request, dwithin_request, knn_literals, knn_request_by, call_request_by, distance_request, comparison_request, request_by, store_distance, match_distance, match_request, match_leaf_by}
use Rattle.definitions.specs.Words.Literals.{is_k}
use Rattle.definitions.specs.Bytes.Good.{All, InRange}
use Rattle.theorems.proofs.Cases.{each}
use Rattle.theorems.proofs.Columns.{all-left, all-right, all_both, columns-below, map_comparison, comparison-mapped}
use Rattle.theorems.proofs.Requests.{Within, request-within}
use Rattle.theorems.proofs.MatchMeans.{no-columns}

-- ---- column indexes changed

mutual
  unfolding map_columns columns_of

  -- Two changes that agree on an expression's columns.
  pub map_same : (f g : ℕ → ℕ) (e : Expr) → All (λ i. f i ≡ g i) (columns_of e) → map_columns f e ≡ map_columns g e
  map_same f g (column i t) = λ a. ap (λ (x : ℕ). column x t) a.0
  map_same f g (literal type v) = λ a. refl
  map_same f g (and l r) = λ a.
      ap₂ and (map_same f g l (all-left (λ i. f i ≡ g i) (columns_of l) (columns_of r) a))
      (map_same f g r (all-right (λ i. f i ≡ g i) (columns_of l) (columns_of r) a))
  map_same f g (binary o l r) = λ a.
      ap₂ (binary o) (map_same f g l (all-left (λ i. f i ≡ g i) (columns_of l) (columns_of r) a))
      (map_same f g r (all-right (λ i. f i ≡ g i) (columns_of l) (columns_of r) a))
  map_same f g (call name es) = λ a. ap (call name) (map-all-same f g es a)
  map_same f g (other tag es) = λ a. ap (other tag) (map-all-same f g es a)
  map_same f g (field b t) = λ a. refl

  map-all-same : (f g : ℕ → ℕ) (es : Exprs) → All (λ i. f i ≡ g i) (columns_of_all es) → map_columns_all f es ≡ map_columns_all g es
  map-all-same f g nil = λ a. refl
  map-all-same f g (cons e es) = λ a.
      ap₂ cons (map_same f g e (all-left (λ i. f i ≡ g i) (columns_of e) (columns_of_all es) a))
      (map-all-same f g es (all-right (λ i. f i ≡ g i) (columns_of e) (columns_of_all es) a))

mutual
  unfolding map_columns

  -- One change after another.
  pub map-twice : (f g : ℕ → ℕ) (e : Expr) → map_columns g (map_columns f e) ≡ map_columns (λ i. g (f i)) e
  map-twice f g (column i t) = refl
  map-twice f g (literal type v) = refl
  map-twice f g (and l r) = ap₂ and (map-twice f g l) (map-twice f g r)
  map-twice f g (binary o l r) = ap₂ (binary o) (map-twice f g l) (map-twice f g r)
  map-twice f g (call name es) = ap (call name) (map-all-twice f g es)
  map-twice f g (other tag es) = ap (other tag) (map-all-twice f g es)
  map-twice f g (field b t) = refl

  map-all-twice : (f g : ℕ → ℕ) (es : Exprs) → map_columns_all g (map_columns_all f es) ≡ map_columns_all (λ i. g (f i)) es
  map-all-twice f g nil = refl
  map-all-twice f g (cons e es) = ap₂ cons (map-twice f g e) (map-all-twice f g es)

mutual
  unfolding map_columns columns_of

  -- The columns of a changed expression are the changed columns.
  pub columns-mapped : (f : ℕ → ℕ) (e : Expr) → columns_of (map_columns f e) ≡ map f (columns_of e)
  columns-mapped f (column i t) = refl
  columns-mapped f (literal type v) = refl
  columns-mapped f (and l r) = ap₂ ◌++◌ (columns-mapped f l) (columns-mapped f r) ∙ sym (map-append f (columns_of l) (columns_of r))
  columns-mapped f (binary o l r) = ap₂ ◌++◌ (columns-mapped f l) (columns-mapped f r) ∙ sym (map-append f (columns_of l) (columns_of r))
  columns-mapped f (call name es) = columns-all-mapped f es
  columns-mapped f (other tag es) = columns-all-mapped f es
  columns-mapped f (field b t) = refl

  columns-all-mapped : (f : ℕ → ℕ) (es : Exprs) → columns_of_all (map_columns_all f es) ≡ map f (columns_of_all es)
  columns-all-mapped f nil = refl
  columns-all-mapped f (cons e es) =
      ap₂ ◌++◌ (columns-mapped f e) (columns-all-mapped f es) ∙ sym (map-append f (columns_of e) (columns_of_all es))

sides-same : (f g : ℕ → Side) (is : List ℕ) → All (λ i. f i ≡ g i) is → map f is ≡ map g is
sides-same f g [] a = refl
sides-same f g (i ∷ is) a = ap₂ (λ (x : Side) (y : List Side). x ∷ y) a.0 (sides-same f g is a.1)

sides-after : (f : ℕ → ℕ) (g : ℕ → Side) (is : List ℕ) → map g (map f is) ≡ map (λ i. g (f i)) is
sides-after f g [] = refl
sides-after f g (i ∷ is) = ap (λ (y : List Side). g (f i) ∷ y) (sides-after f g is)

-- ---- what a leaf with changed columns asks for

-- A request with its columns changed.
map_request : (ℕ → ℕ) → Request → Request
map_request f (ask_relation t a b) = ask_relation t (map_columns f a) (map_columns f b)
map_request f (ask_distance form a b d) = ask_distance form (map_columns f a) (map_columns f b) (map_columns f d)
map_request f (ask_knn k sp t a b) = ask_knn k sp t (map_columns f a) (map_columns f b)
map_request f ask_nothing = ask_nothing

module _ (default : ℕ) (f : ℕ → ℕ) where
  k-mapped : (e : Expr) → literal_k (map_columns f e) ≡ literal_k e
  unfolding literal_k literal_u32 map_columns
  k-mapped = each (λ e. literal_k (map_columns f e) ≡ literal_k e)
      (λ i g. refl) (λ y v. refl) (λ l r. refl) (λ o l r. refl) (λ n ts. refl) (λ g ts. refl) (λ b g. refl)

  pub bool-mapped : (e : Expr) → literal_bool (map_columns f e) ≡ literal_bool e
  unfolding literal_bool map_columns
  bool-mapped = each (λ e. literal_bool (map_columns f e) ≡ literal_bool e)
      (λ i g. refl) (λ y v. refl) (λ l r. refl) (λ o l r. refl) (λ n ts. refl) (λ g ts. refl) (λ b g. refl)

  relation-mapped : (t : Option Relation) (es : Exprs) → relation_request t (map_columns_all f es) ≡ map_request f (relation_request t es)
  unfolding relation_request map_columns map_request
  relation-mapped none es = refl
  relation-mapped (some t) nil = refl
  relation-mapped (some t) (cons a nil) = refl
  relation-mapped (some t) (cons a (cons b more)) = refl

  dwithin-mapped : (es : Exprs) → dwithin_request (map_columns_all f es) ≡ map_request f (dwithin_request es)
  unfolding dwithin_request map_columns map_request
  dwithin-mapped nil = refl
  dwithin-mapped (cons a nil) = refl
  dwithin-mapped (cons a (cons b nil)) = refl
  dwithin-mapped (cons a (cons b (cons d more))) = refl

  literals-mapped : (k s t : Option ℕ) (a b : Expr)
      → knn_literals k s t (map_columns f a) (map_columns f b) ≡ map_request f (knn_literals k s t a b)
  unfolding knn_literals map_request
  literals-mapped none s t a b = refl
  literals-mapped (some k) none t a b = refl
  literals-mapped (some k) (some s) none a b = refl
  literals-mapped (some k) (some s) (some t) a b = refl

  knn-mapped : (es : Exprs) → knn_request_by default (map_columns_all f es) ≡ map_request f (knn_request_by default es)
  unfolding knn_request_by map_columns map_request
  knn-mapped nil = refl
  knn-mapped (cons a nil) = refl
  knn-mapped (cons a (cons b nil)) = refl
  knn-mapped (cons a (cons b (cons k nil))) = rw (k-mapped k) (literals-mapped (literal_k k) (some 0) (some 2) a b)
  knn-mapped (cons a (cons b (cons k (cons s nil)))) =
      rw (k-mapped k, bool-mapped s) (literals-mapped (literal_k k) (literal_bool s) (some 2) a b)
  knn-mapped (cons a (cons b (cons k (cons s (cons t nil))))) =
      rw (k-mapped k, bool-mapped s, bool-mapped t) (literals-mapped (literal_k k) (literal_bool s) (literal_bool t) a b)
  knn-mapped (cons a (cons b (cons k (cons s (cons t (cons x more)))))) = refl

  call-mapped : (name : List ℕ) (es : Exprs) → call_request_by default name (map_columns_all f es)
      ≡ map_request f (call_request_by default name es)
  unfolding call_request_by
  call-mapped name es = cases (same_name name (ascii "st_knn")) (same_name name (ascii "st_dwithin"))
    where
      cases : (p q : Bool)
          → (if p then knn_request_by default (map_columns_all f es) else
          if q then dwithin_request (map_columns_all f es) else
          relation_request (relation_named name) (map_columns_all f es))
          ≡ map_request f (if p then knn_request_by default es else if q then dwithin_request es else relation_request
          (relation_named name) es)
      cases true q = knn-mapped es
      cases false true = dwithin-mapped es
      cases false false = relation-mapped (relation_named name) es

  pub arguments-mapped : (e : Expr) → distance_arguments (map_columns f e) ≡ Option.map (map_columns_all f) (distance_arguments e)
  unfolding distance_arguments map_columns
  arguments-mapped (column i t) = refl
  arguments-mapped (literal type v) = refl
  arguments-mapped (and l r) = refl
  arguments-mapped (binary o l r) = refl
  arguments-mapped (call name es) = cases (same_name name (ascii "st_distance"))
    where
      cases : (p : Bool) → (if p then some (map_columns_all f es) else none) ≡ Option.map (map_columns_all f) (if p then some es else none)
      cases true = refl
      cases false = refl
  arguments-mapped (other tag es) = refl
  arguments-mapped (field b t) = refl

  distance-mapped : (form : ℕ) (bound : Expr) (x : Option Exprs)
      → distance_request form (map_columns f bound) (Option.map (map_columns_all f) x) ≡ map_request f (distance_request form bound x)
  unfolding distance_request map_columns map_request
  distance-mapped form bound none = refl
  distance-mapped form bound (some nil) = refl
  distance-mapped form bound (some (cons a nil)) = refl
  distance-mapped form bound (some (cons a (cons b more))) = refl

  asked-mapped : (o : ℕ) (c : Comparison) → comparison_request o (map_comparison f c) ≡ map_request f (comparison_request o c)
  unfolding comparison_request map_comparison map_request
  asked-mapped o no_comparison = refl
  asked-mapped o (compares measured bound) =
      ap (distance_request o (map_columns f bound)) (arguments-mapped measured) ∙ distance-mapped o bound (distance_arguments measured)

  request-mapped : (e : Expr) → request_by default (map_columns f e) ≡ map_request f (request_by default e)
  unfolding request_by map_columns map_request
  request-mapped (column i t) = refl
  request-mapped (literal type v) = refl
  request-mapped (and l r) = refl
  request-mapped (binary o l r) = ap (comparison_request o) (comparison-mapped f o l r) ∙ asked-mapped o (comparison o l r)
  request-mapped (call name es) = call-mapped name es
  request-mapped (other tag es) = refl
  request-mapped (field b t) = refl

-- ---- columns that stay

mutual
  unfolding map_columns

  -- Renumbered to themselves.
  pub map-kept : (e : Expr) → map_columns (λ i. i) e ≡ e
  map-kept (column i t) = refl
  map-kept (literal type v) = refl
  map-kept (and l r) = ap₂ and (map-kept l) (map-kept r)
  map-kept (binary o l r) = ap₂ (binary o) (map-kept l) (map-kept r)
  map-kept (call name es) = ap (call name) (map-all-kept es)
  map-kept (other tag es) = ap (other tag) (map-all-kept es)
  map-kept (field b t) = refl

  map-all-kept : (es : Exprs) → map_columns_all (λ i. i) es ≡ es
  map-all-kept nil = refl
  map-all-kept (cons e es) = ap₂ cons (map-kept e) (map-all-kept es)

-- An expression without columns.
none-changed : (f : ℕ → ℕ) (rs : List Record) (e : Expr) → side_of rs e ≡ no_columns → map_columns f e ≡ e
unfolding side_of
none-changed f rs e s =
    map_same f (λ i. i) e (no-columns (λ i. f i ≡ i) (λ i. (record_at rs i).side) (columns_of e) s) ∙ map-kept e

-- ---- matching

-- Columns below a bound are renumbered, and their records stay the same.
module _ (rs rs' : List Record) (f : ℕ → ℕ) (b : ℕ) (same : (i : ℕ) → i < b → record_at rs' (f i) ≡ record_at rs i) where
  read-moved : {A : Type 0} (g : Record → A) (e : Expr) → InRange (index_below b) e
      → All (λ i. g (record_at rs' (f i)) ≡ g (record_at rs i)) (columns_of e)
  read-moved g e h =
      all_both (λ i. ltb i b ≡ true) (λ i. ltb i b ≡ true) (λ i. g (record_at rs' (f i)) ≡ g (record_at rs i))
      (λ i p q. ap g (same i (ltb-true i b p))) (columns_of e) (columns-below b e h) (columns-below b e h)

  child-moved : (e : Expr) → InRange (index_below b) e → on_child rs' (map_columns f e) ≡ on_child rs e
  unfolding on_child
  child-moved e h = map-twice f (λ i. (record_at rs' i).child) e ∙ map_same _ _ e (read-moved (λ (r : Record). r.child) e h)

  -- An expression's columns lie where they lay.
  pub sides-moved : (e : Expr) → InRange (index_below b) e
      → map (λ i. (record_at rs' i).side) (columns_of (map_columns f e)) ≡ map (λ i. (record_at rs i).side) (columns_of e)
  sides-moved e h =
      ap (map (λ i. (record_at rs' i).side)) (columns-mapped f e)
      ∙ sides-after f (λ i. (record_at rs' i).side) (columns_of e)
      ∙ sides-same _ _ (columns_of e) (read-moved (λ (r : Record). r.side) e h)

  side-moved : (e : Expr) → InRange (index_below b) e → side_of rs' (map_columns f e) ≡ side_of rs e
  unfolding side_of
  side-moved e h = ap common_side (sides-moved e h)

  distance-moved : (form : ℕ) (x y bound : Expr) (s : ArgumentSide) (o : Order) → InRange (index_below b) bound → side_of rs bound ≡ s
      → match_distance rs' form x y (map_columns f bound) s o ≡ match_distance rs form x y bound s o
  unfolding match_distance
  distance-moved form x y bound no_columns o h e = ap (λ (d : Expr). store_distance form no_side x y d o) (none-changed f rs bound e)
  distance-moved form x y bound (all_on left) o h e = ap (λ (d : Expr). store_distance form left x y d o) (child-moved bound h)
  distance-moved form x y bound (all_on right) o h e = ap (λ (d : Expr). store_distance form right x y d o) (child-moved bound h)
  distance-moved form x y bound (all_on no_side) o h e = refl
  distance-moved form x y bound mixed o h e = refl

  request-moved : (room size levels : ℕ) (q : Request) → Within (index_below b) room size levels q
      → match_request rs' (map_request f q) ≡ match_request rs q
  unfolding match_request map_request
  request-moved room size levels (ask_relation t x y) h =
      rw (child-moved x h.0, child-moved y h.1, side-moved x h.0, side-moved y h.1)
  request-moved room size levels (ask_distance form x y d) h =
      rw (child-moved x h.1, child-moved y h.2, side-moved x h.1, side-moved y h.2, side-moved d h.3)
      (distance-moved form _ _ d _ _ h.3 refl)
  request-moved room size levels (ask_knn k sp t x y) h =
      rw (child-moved x h.3, child-moved y h.4, side-moved x h.3, side-moved y h.4)
  request-moved room size levels ask_nothing h = refl

  -- A leaf matches as it did.
  pub leaf-moved : (default : ℕ) → is_k default ≡ true → (e : Expr) → InRange (index_below b) e
      → match_leaf_by default rs' (map_columns f e) ≡ match_leaf_by default rs e
  unfolding match_leaf_by
  leaf-moved default is e h =
      ap (match_request rs') (request-mapped default f e)
      ∙ request-moved _ _ _ (request_by default e) (request-within default is (index_below b) e h)
