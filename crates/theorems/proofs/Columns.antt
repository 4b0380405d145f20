-- What changing column indexes keeps.
use Rattle.std.specs.Prelude.{if◌then◌else◌}
use Prim.Native.Nat.{ℕ, suc, ◌+◌, max}
use mathlib.Core.Path.{◌≡◌, refl, sym, ap, ap₂, ◌∙◌}
use mathlib.Core.Bool.{Bool, true, false, ◌&&◌, ◌||◌}
use mathlib.Core.List.{List, [], ◌∷◌, ◌++◌, map, map-append}
use mathlib.Core.Option.{none, some}
use lib.ListN.{length, length-append}
use lib.Dec.{leb, ltb, eqb}
use borrow.Author.Tests.{lt-ltb}
use Rattle.definitions.specs.Words.Basics.{big_endian, all, ascii, same_name}
use Rattle.definitions.specs.Words.Expression.{Expr, column, literal, and, binary, call, other, field, Exprs, nil, cons, count}
use Rattle.definitions.specs.Bytes.Encode.{expr_bytes, exprs_bytes}
use Rattle.definitions.specs.Words.Leaves.{leaves, call_arity, leaf_arity, arity, comparison, Comparison, compares, no_comparison, comparison_arity, distance_arguments, distance_arity}
use Rattle.definitions.specs.Bytes.Decode.{index_below}
use Rattle.definitions.specs.Words.References.{columns_of, columns_of_all, map_columns, map_columns_all}
use Rattle.definitions.specs.Bytes.Good.{All, nodes, nodes_all, depth, depth_all, InRange, InRangeAll, Short}

pub all-left : (P : ℕ → Type 0) (xs ys : List ℕ) → All P (xs ++ ys) → All P xs
all-left P [] ys h = tt
all-left P (x ∷ xs) ys h = (h.0, all-left P xs ys h.1)

pub all-right : (P : ℕ → Type 0) (xs ys : List ℕ) → All P (xs ++ ys) → All P ys
all-right P [] ys h = h
all-right P (x ∷ xs) ys h = all-right P xs ys h.1

pub all-every : (P : ℕ → Type 0) → ((x : ℕ) → P x) → (xs : List ℕ) → All P xs
all-every P f [] = tt
all-every P f (x ∷ xs) = (f x, all-every P f xs)

pub all_append : (P : ℕ → Type 0) (xs ys : List ℕ) → All P xs → All P ys → All P (xs ++ ys)
all_append P [] ys h k = k
all_append P (x ∷ xs) ys h k = (h.0, all_append P xs ys h.1 k)

pub all_both : (P Q R : ℕ → Type 0) → ((x : ℕ) → P x → Q x → R x) → (xs : List ℕ) → All P xs → All Q xs → All R xs
all_both P Q R f [] h k = tt
all_both P Q R f (x ∷ xs) h k = (f x h.0 k.0, all_both P Q R f xs h.1 k.1)

-- ---- lengths, counts, nodes, depth

mutual
  unfolding expr_bytes map_columns big_endian count

  pub map-length : (f : ℕ → ℕ) (e : Expr) → length (expr_bytes (map_columns f e)) ≡ length (expr_bytes e)
  map-length f (column i t) = refl
  map-length f (literal type v) = refl
  map-length f (and l r) = simp length-append (ap₂ (λ (a b : ℕ). suc (suc (a + b))) (map-length f l) (map-length f r))
  map-length f (binary o l r) = simp length-append (ap₂ (λ (a b : ℕ). suc (suc (a + b))) (map-length f l) (map-length f r))
  map-length f (call name es) = simp length-append (ap (λ (k : ℕ). suc (suc (length name + suc k))) (map-lengths f es))
  map-length f (other tag es) = ap (λ (k : ℕ). suc (suc (suc (suc k)))) (map-lengths f es)
  map-length f (field b t) = refl

  pub map-lengths : (f : ℕ → ℕ) (es : Exprs) → length (exprs_bytes (map_columns_all f es)) ≡ length (exprs_bytes es)
  map-lengths f nil = refl
  map-lengths f (cons e es) = simp length-append (ap₂ ◌+◌ (map-length f e) (map-lengths f es))

pub map-count : (f : ℕ → ℕ) (es : Exprs) → count (map_columns_all f es) ≡ count es
unfolding count map_columns
map-count f nil = refl
map-count f (cons e es) = ap suc (map-count f es)

mutual
  unfolding nodes map_columns

  pub map-nodes : (f : ℕ → ℕ) (e : Expr) → nodes (map_columns f e) ≡ nodes e
  map-nodes f (column i t) = refl
  map-nodes f (literal type v) = refl
  map-nodes f (and l r) = ap₂ (λ (a b : ℕ). suc (a + b)) (map-nodes f l) (map-nodes f r)
  map-nodes f (binary o l r) = ap₂ (λ (a b : ℕ). suc (a + b)) (map-nodes f l) (map-nodes f r)
  map-nodes f (call name es) = ap suc (map-nodes_all f es)
  map-nodes f (other tag es) = ap suc (map-nodes_all f es)
  map-nodes f (field b t) = refl

  map-nodes_all : (f : ℕ → ℕ) (es : Exprs) → nodes_all (map_columns_all f es) ≡ nodes_all es
  map-nodes_all f nil = refl
  map-nodes_all f (cons e es) = ap₂ ◌+◌ (map-nodes f e) (map-nodes_all f es)

mutual
  unfolding depth map_columns

  pub map-depth : (f : ℕ → ℕ) (e : Expr) → depth (map_columns f e) ≡ depth e
  map-depth f (column i t) = refl
  map-depth f (literal type v) = refl
  map-depth f (and l r) = ap₂ (λ (a b : ℕ). suc (max a b)) (map-depth f l) (map-depth f r)
  map-depth f (binary o l r) = ap₂ (λ (a b : ℕ). suc (max a b)) (map-depth f l) (map-depth f r)
  map-depth f (call name es) = ap suc (map-depth_all f es)
  map-depth f (other tag es) = ap suc (map-depth_all f es)
  map-depth f (field b t) = refl

  map-depth_all : (f : ℕ → ℕ) (es : Exprs) → depth_all (map_columns_all f es) ≡ depth_all es
  map-depth_all f nil = refl
  map-depth_all f (cons e es) = ap₂ max (map-depth f e) (map-depth_all f es)

-- ---- ranges

-- A new index fits below the new bound.
abbrev pub Fits : (bound : ℕ) → (ℕ → ℕ) → ℕ → Type 0
Fits bound f i = (ltb (f i) bound ≡ true) × Short (f i)

mutual
  unfolding map_columns columns_of

  pub map-in-range : (b b' : ℕ) (f : ℕ → ℕ) (e : Expr) → All (Fits b' f) (columns_of e) → InRange (index_below b) e
      → InRange (index_below b') (map_columns f e)
  map-in-range b b' f (column i t) = λ a h. (a.0.0, a.0.1, h.2)
  map-in-range b b' f (literal type v) = λ a h. h
  map-in-range b b' f (and l r) = λ a h. (
    map-in-range b b' f l (all-left (Fits b' f) (columns_of l) (columns_of r) a) h.0,
    map-in-range b b' f r (all-right (Fits b' f) (columns_of l) (columns_of r) a) h.1,
  )
  map-in-range b b' f (binary o l r) = λ a h. (
    h.0,
    h.1,
    map-in-range b b' f l (all-left (Fits b' f) (columns_of l) (columns_of r) a) h.2,
    map-in-range b b' f r (all-right (Fits b' f) (columns_of l) (columns_of r) a) h.3,
  )
  map-in-range b b' f (call name es) = λ a h. (h.0, h.1, h.2, rw (map-count f es) h.3, map-all-in-range b b' f es a h.4)
  map-in-range b b' f (other tag es) = λ a h. (h.0, rw (map-count f es) h.1, map-all-in-range b b' f es a h.2)
  map-in-range b b' f (field bits t) = λ a h. h

  map-all-in-range : (b b' : ℕ) (f : ℕ → ℕ) (es : Exprs) → All (Fits b' f) (columns_of_all es) → InRangeAll (index_below b) es
      → InRangeAll (index_below b') (map_columns_all f es)
  map-all-in-range b b' f nil = λ a h. h
  map-all-in-range b b' f (cons e es) = λ a h. (
    map-in-range b b' f e (all-left (Fits b' f) (columns_of e) (columns_of_all es) a) h.0,
    map-all-in-range b b' f es (all-right (Fits b' f) (columns_of e) (columns_of_all es) a) h.1,
  )

-- A wider bound.
mutual
  pub widen : (b : ℕ) (e : Expr) → InRange (index_below b) e → InRange (index_below 65536) e
  widen b (column i t) = λ h. (lt-ltb i 65536 h.1, h.1, h.2)
  widen b (literal type v) = λ h. h
  widen b (and l r) = λ h. (widen b l h.0, widen b r h.1)
  widen b (binary o l r) = λ h. (h.0, h.1, widen b l h.2, widen b r h.3)
  widen b (call name es) = λ h. (h.0, h.1, h.2, h.3, widen-all b es h.4)
  widen b (other tag es) = λ h. (h.0, h.1, widen-all b es h.2)
  widen b (field bits t) = λ h. h

  widen-all : (b : ℕ) (es : Exprs) → InRangeAll (index_below b) es → InRangeAll (index_below 65536) es
  widen-all b nil = λ h. h
  widen-all b (cons e es) = λ h. (widen b e h.0, widen-all b es h.1)

-- ---- leaves and arity

pub map-leaves : (f : ℕ → ℕ) (e : Expr) → leaves (map_columns f e) ≡ map (map_columns f) (leaves e)
unfolding leaves map_columns
map-leaves f (column i t) = refl
map-leaves f (literal type v) = refl
map-leaves f (and l r) = ap₂ ◌++◌ (map-leaves f l) (map-leaves f r) ∙ sym (map-append (map_columns f) (leaves l) (leaves r))
map-leaves f (binary o l r) = refl
map-leaves f (call name es) = refl
map-leaves f (other tag es) = refl
map-leaves f (field b t) = refl

unfoldable pub map_comparison : (ℕ → ℕ) → Comparison → Comparison
map_comparison f no_comparison = no_comparison
map_comparison f (compares m b) = compares (map_columns f m) (map_columns f b)

pub comparison-mapped : (f : ℕ → ℕ) (o : ℕ) (l r : Expr)
    → comparison o (map_columns f l) (map_columns f r) ≡ map_comparison f (comparison o l r)
unfolding comparison map_comparison
comparison-mapped f o l r = cases (eqb o 1 || eqb o 2) (eqb o 3 || eqb o 4)
  where
    cases : (p q : Bool)
        → (if p then compares (map_columns f l) (map_columns f r) else if q then compares (map_columns f r)
        (map_columns f l) else no_comparison)
        ≡ map_comparison f (if p then compares l r else if q then compares r l else no_comparison)
    cases true q = refl
    cases false true = refl
    cases false false = refl

if-arguments : (f : ℕ → ℕ) (es : Exprs) (b : Bool)
    → distance_arity (if b then some (map_columns_all f es) else none) ≡ distance_arity (if b then some es else none)
unfolding distance_arity
if-arguments f es true = ap (leb 2) (map-count f es)
if-arguments f es false = refl

distance-arity : (f : ℕ → ℕ) (e : Expr) → distance_arity (distance_arguments (map_columns f e)) ≡ distance_arity (distance_arguments e)
unfolding distance_arguments map_columns
distance-arity f (column i t) = refl
distance-arity f (literal type v) = refl
distance-arity f (and l r) = refl
distance-arity f (binary o l r) = refl
distance-arity f (call name es) = if-arguments f es (same_name name (ascii "st_distance"))
distance-arity f (other tag es) = refl
distance-arity f (field b t) = refl

comparison-arity : (f : ℕ → ℕ) (c : Comparison) → comparison_arity (map_comparison f c) ≡ comparison_arity c
unfolding comparison_arity map_comparison
comparison-arity f no_comparison = refl
comparison-arity f (compares m b) = distance-arity f m

leaf-arity : (f : ℕ → ℕ) (e : Expr) → leaf_arity (map_columns f e) ≡ leaf_arity e
unfolding leaf_arity map_columns
leaf-arity f (column i t) = refl
leaf-arity f (literal type v) = refl
leaf-arity f (and l r) = refl
leaf-arity f (binary o l r) = ap comparison_arity (comparison-mapped f o l r) ∙ comparison-arity f (comparison o l r)
leaf-arity f (call name es) = ap (call_arity name) (map-count f es)
leaf-arity f (other tag es) = refl
leaf-arity f (field b t) = refl

leaves-arity : (f : ℕ → ℕ) (es : List Expr) → all leaf_arity (map (map_columns f) es) ≡ all leaf_arity es
unfolding all
leaves-arity f [] = refl
leaves-arity f (e ∷ es) = ap₂ ◌&&◌ (leaf-arity f e) (leaves-arity f es)

pub map-arity : (f : ℕ → ℕ) (e : Expr) → arity (map_columns f e) ≡ arity e
unfolding arity
map-arity f e = ap (all leaf_arity) (map-leaves f e) ∙ leaves-arity f (leaves e)

-- ---- column indexes are below the bound

mutual
  unfolding columns_of

  pub columns-below : (b : ℕ) (e : Expr) → InRange (index_below b) e → All (λ i. ltb i b ≡ true) (columns_of e)
  columns-below b (column i t) = λ h. (h.0, tt)
  columns-below b (literal type v) = λ h. tt
  columns-below b (and l r) =
      λ h. all_append (λ i. ltb i b ≡ true) (columns_of l) (columns_of r) (columns-below b l h.0) (columns-below b r h.1)
  columns-below b (binary o l r) =
      λ h. all_append (λ i. ltb i b ≡ true) (columns_of l) (columns_of r) (columns-below b l h.2) (columns-below b r h.3)
  columns-below b (call name es) = λ h. columns-all-below b es h.4
  columns-below b (other tag es) = λ h. columns-all-below b es h.2
  columns-below b (field bits t) = λ h. tt

  columns-all-below : (b : ℕ) (es : Exprs) → InRangeAll (index_below b) es → All (λ i. ltb i b ≡ true) (columns_of_all es)
  columns-all-below b nil = λ h. tt
  columns-all-below b (cons e es) =
      λ h. all_append (λ i. ltb i b ≡ true) (columns_of e) (columns_of_all es) (columns-below b e h.0) (columns-all-below b es h.1)
