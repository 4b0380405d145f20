-- The records of an expression are those that start before its end, and the columns among them are its columns.
use Prim.Native.Nat.{ℕ, suc, ◌+◌, ◌≤◌, ◌<◌}
use Rattle.std.specs.Prelude.{if◌then◌else◌}
use native.Mathlib.Omega.{arith}
use native.Mathlib.Numerals.{add-one}
use mathlib.Core.Path.{◌≡◌, refl, sym, ap, ap₂, ◌∙◌, subst}
use mathlib.Core.Bool.{Bool, true, false}
use mathlib.Core.List.{List, [], ◌∷◌, ◌++◌, append_assoc, append-nil}
use lib.ListN.{length, drop, get_or, length-append, length-drop, length-map}
use lib.Seq.{drop-cons}
use lib.Dec.{eqb}
use borrow.Author.Tests.{lt-ltb, le-ltb, eq-eqb, ne_eqb}
use Rattle.definitions.specs.Words.Expression.{Expr, column, literal, and, binary, call, other, field, Exprs, nil, cons}
use Rattle.definitions.specs.Words.Basics.{big_endian}
use Rattle.definitions.specs.Bytes.Encode.{expr_bytes, exprs_bytes}
use Rattle.definitions.specs.Bytes.Good.{nodes}
use Rattle.definitions.specs.Bytes.NodeTable.{NodeRecord, kind_byte, record_of, nodes_from, row_from}
use Rattle.theorems.proofs.NodeTables.{node-count}
use Rattle.expression.specs.Nodes.{head_bytes, children_of}
use Rattle.expression.proofs.Standing.{some_bytes, tree-length}
use Rattle.node_table.proofs.Filling.{map-drop}
use Rattle.filter_tree.proofs.NodeLaws.{nodes-split, nodes-below}
use Rattle.filter_tree.proofs.ColumnPlaces.{columns_at, row_columns_at}
use Rattle.node_table.specs.Records.{node_of, nodes_of}
use Rattle.node_table.specs.declared.NodeRecord.{NodeRecord as Lent}
use Rattle.node_table.proofs.RecordLaws.{blank}
use Rattle.filter_tree.specs.Trees.{Later, Noded, NodedAll, below, places_of}

-- ---- one record more

below-more : (end : ℕ) (r : NodeRecord) (more : List NodeRecord) → r.start < end → below end (r ∷ more) ≡ r ∷ below end more
unfolding below
below-more end r more h = rw (lt-ltb r.start end h)

below-ends : (end : ℕ) (r : NodeRecord) (more : List NodeRecord) → end ≤ r.start → below end (r ∷ more) ≡ []
unfolding below
below-ends end r more h = rw (le-ltb r.start end h)

below-later : (end : ℕ) (rest : List NodeRecord) → Later end rest → below end rest ≡ []
below-later end [] h = unfold below in refl
below-later end (r ∷ more) h = below-ends end r more h

-- ---- those of an expression start before its end

-- The records of an expression that ends by this end, before others, are below it.
abbrev Before : (end at : ℕ) → Expr → Type 0
Before end at t = (rest : List NodeRecord) → below end (nodes_from at t ++ rest) ≡ nodes_from at t ++ below end rest

both-below : (end : ℕ) (a : NodeRecord) (p q : ℕ) (l r : Expr) (rest : List NodeRecord) → a.start < end → Before end p l → Before end q r
    → below end (a ∷ ((nodes_from p l ++ nodes_from q r) ++ rest)) ≡ a ∷ ((nodes_from p l ++ nodes_from q r) ++ below end rest)
both-below end a p q l r rest start left right =
    let x : List NodeRecord = nodes_from p l in
    let y : List NodeRecord = nodes_from q r in
    below-more end a ((x ++ y) ++ rest) start
    ∙ ap {B = List NodeRecord} (λ z. a ∷ z)
    (ap (below end) (append_assoc x y rest) ∙ left (y ++ rest) ∙ ap (λ (z : List NodeRecord). x ++ z) (right rest)
    ∙ sym (append_assoc x y (below end rest)))

mutual
  unfolding nodes_from row_from record_of expr_bytes exprs_bytes big_endian

  node-below : (end at : ℕ) (t : Expr) (rest : List NodeRecord) → at + length (expr_bytes t) ≤ end
      → below end (nodes_from at t ++ rest) ≡ nodes_from at t ++ below end rest
  node-below end at (column i g) rest h = below-more end _ rest (omega arith)
  node-below end at (literal y v) rest h = below-more end _ rest (omega arith)
  node-below end at (and l r) rest h =
      let k = simp length-append at h in
      both-below end (record_of at (and l r)) (at + 2) (at + 2 + length (expr_bytes l)) l r rest (omega arith)
      (λ z. node-below end (at + 2) l z (omega (arith, k)))
      (λ z. node-below end (at + 2 + length (expr_bytes l)) r z (omega (arith, k)))
  node-below end at (binary o l r) rest h =
      let k = simp length-append at h in
      both-below end (record_of at (binary o l r)) (at + 2) (at + 2 + length (expr_bytes l)) l r rest (omega arith)
      (λ z. node-below end (at + 2) l z (omega (arith, k)))
      (λ z. node-below end (at + 2 + length (expr_bytes l)) r z (omega (arith, k)))
  node-below end at (call name ts) rest h =
      below-more end _ _ (omega arith)
      ∙ ap {B = List NodeRecord} (λ x. record_of at (call name ts) ∷ x)
      (row-below end (at + (3 + length name)) ts rest (omega (arith, simp length-append at h)))
  node-below end at (other g ts) rest h =
      below-more end _ _ (omega arith)
      ∙ ap {B = List NodeRecord} (λ x. record_of at (other g ts) ∷ x)
      (row-below end (at + 4) ts rest (omega (arith, simp length-append at h)))
  node-below end at (field b g) rest h = below-more end _ rest (omega arith)

  row-below : (end at : ℕ) (ts : Exprs) (rest : List NodeRecord) → at + length (exprs_bytes ts) ≤ end
      → below end (row_from at ts ++ rest) ≡ row_from at ts ++ below end rest
  row-below end at nil rest h = refl
  row-below end at (cons t ts) rest h =
      let k = simp length-append at h in
      let x : List NodeRecord = nodes_from at t in
      let y : List NodeRecord = row_from (at + length (expr_bytes t)) ts in
      ap (below end) (append_assoc x y rest)
      ∙ node-below end at t (y ++ rest) (omega (arith, k))
      ∙ ap (λ (z : List NodeRecord). x ++ z) (row-below end (at + length (expr_bytes t)) ts rest (omega (arith, k)))
      ∙ sym (append_assoc x y (below end rest))

-- ---- the columns among them

pub kind-more : (kind : ℕ) (r : NodeRecord) (more : List NodeRecord) → r.kind ≡ kind
    → places_of kind (r ∷ more) ≡ r.start ∷ places_of kind more
unfolding places_of
kind-more kind r more h = rw (eq-eqb r.kind kind h)

pub other-more : (kind : ℕ) (r : NodeRecord) (more : List NodeRecord) → (r.kind ≡ kind → ⊥)
    → places_of kind (r ∷ more) ≡ places_of kind more
unfolding places_of
other-more kind r more h = rw (ne_eqb r.kind kind h)

pub places-append : (kind : ℕ) (x y : List NodeRecord) → places_of kind (x ++ y) ≡ places_of kind x ++ places_of kind y
unfolding places_of
places-append kind [] y = refl
places-append kind (r ∷ x) y = go (eqb r.kind kind) (places-append kind x y)
  where
    go : (is : Bool) → places_of kind (x ++ y) ≡ places_of kind x ++ places_of kind y
        → (if is then r.start ∷ places_of kind (x ++ y) else places_of kind (x ++ y))
        ≡ (if is then r.start ∷ places_of kind x else places_of kind x) ++ places_of kind y
    go true e = ap (λ (l : List ℕ). r.start ∷ l) e
    go false e = e

both-places : (x y : List NodeRecord) (u v : List ℕ) → places_of 0 x ≡ u → places_of 0 y ≡ v → places_of 0 (x ++ y) ≡ u ++ v
both-places x y u v e f = places-append 0 x y ∙ ap₂ ◌++◌ e f

mutual
  unfolding columns_at row_columns_at places_of nodes_from row_from record_of kind_byte

  -- The law: the columns among the records of an expression are its columns.
  pub places-are : (at : ℕ) (t : Expr) → places_of 0 (nodes_from at t) ≡ columns_at at t
  places-are at (column i g) = refl
  places-are at (literal y v) = refl
  places-are at (and l r) =
      both-places (nodes_from (at + 2) l) (nodes_from (at + 2 + length (expr_bytes l)) r) _ _
      (places-are (at + 2) l) (places-are (at + 2 + length (expr_bytes l)) r)
  places-are at (binary o l r) =
      both-places (nodes_from (at + 2) l) (nodes_from (at + 2 + length (expr_bytes l)) r) _ _
      (places-are (at + 2) l) (places-are (at + 2 + length (expr_bytes l)) r)
  places-are at (call name ts) = row-places (at + (3 + length name)) ts
  places-are at (other g ts) = row-places (at + 4) ts
  places-are at (field b g) = refl

  row-places : (at : ℕ) (ts : Exprs) → places_of 0 (row_from at ts) ≡ row_columns_at at ts
  row-places at nil = refl
  row-places at (cons t ts) =
      both-places (nodes_from at t) (row_from (at + length (expr_bytes t)) ts) _ _ (places-are at t)
      (row-places (at + length (expr_bytes t)) ts)

-- ---- the records of a table, by index

-- The record of an index is the first of those from it on.
pub drop-here : (xs : List Lent) (k : ℕ) → k < length xs
    → drop k (nodes_of xs) ≡ node_of (get_or xs k blank) ∷ drop (k + 1) (nodes_of xs)
drop-here xs k h =
    sym (map-drop node_of k xs) ∙ ap nodes_of (drop-cons xs k blank h)
    ∙ ap {B = List NodeRecord} (λ l. node_of (get_or xs k blank) ∷ l)
    (map-drop node_of (suc k) xs ∙ ap (λ (n : ℕ). drop n (nodes_of xs)) (sym (add-one k)))

-- Where it starts before the end, it is one more; where it does not, or there is none, there is no more.
pub scan-step : (xs : List Lent) (end k : ℕ) → k < length xs → (get_or xs k blank).start < end
    → below end (drop k (nodes_of xs)) ≡ node_of (get_or xs k blank) ∷ below end (drop (k + 1) (nodes_of xs))
scan-step xs end k h less = ap (below end) (drop-here xs k h) ∙ below-more end _ _ less

pub scan-stops : (xs : List Lent) (end k : ℕ) → k < length xs → end ≤ (get_or xs k blank).start
    → below end (drop k (nodes_of xs)) ≡ []
scan-stops xs end k h more = ap (below end) (drop-here xs k h) ∙ below-ends end _ _ more

no-length : (l : List NodeRecord) → length l ≡ 0 → l ≡ []
no-length [] e = refl
no-length (r ∷ l) e = absurd (omega arith)

pub dropped-out : (xs : List Lent) (k : ℕ) → length xs ≤ k → drop k (nodes_of xs) ≡ []
dropped-out xs k h = no-length (drop k (nodes_of xs)) (omega (arith, length-drop k (nodes_of xs), length-map xs node_of))

pub scan-out : (xs : List Lent) (end k : ℕ) → length xs ≤ k → below end (drop k (nodes_of xs)) ≡ []
scan-out xs end k h = ap (below end) (dropped-out xs k h) ∙ below-later end [] tt

-- ---- a node by its index

module _ {xs : List Lent} {at i : ℕ} {t : Expr} (h : Noded xs at i t) where
  -- All its records are below its end.
  pub noded-below : below (at + length (expr_bytes t)) (drop i (nodes_of xs)) ≡ nodes_from at t
  noded-below =
      ap (below (at + length (expr_bytes t))) h.is
      ∙ node-below (at + length (expr_bytes t)) at t h.rest (omega arith)
      ∙ ap (λ (l : List NodeRecord). nodes_from at t ++ l) (below-later (at + length (expr_bytes t)) h.rest h.later)
      ∙ append-nil (nodes_from at t)

  pub noded-room : i + nodes t ≤ length xs
  noded-room =
      let size = length-append (nodes_from at t) h.rest in
      omega (arith, length-drop i (nodes_of xs), length-map xs node_of, ap length h.is, size, node-count at t, nodes-below t)

  pub noded-within : i < length xs
  noded-within = omega (arith, noded-room, nodes-below t)

  noded-split : node_of (get_or xs i blank) ∷ drop (i + 1) (nodes_of xs)
      ≡ record_of at t ∷ (row_from (at + length (head_bytes t)) (children_of t) ++ h.rest)
  noded-split =
      sym (drop-here xs i noded-within) ∙ h.is ∙ ap (λ (l : List NodeRecord). l ++ h.rest) (nodes-split at t)

  pub noded-record : node_of (get_or xs i blank) ≡ record_of at t
  noded-record = let both = noded-split in cc

  pub noded-start : (get_or xs i blank).start ≡ at
  unfolding record_of
  noded-start = ap (λ (r : NodeRecord). r.start) noded-record

  pub noded-end : (get_or xs i blank).end ≡ at + length (expr_bytes t)
  unfolding record_of
  noded-end = ap (λ (r : NodeRecord). r.end) noded-record

  -- ---- its children

  pub noded-children : (p k : ℕ) → p ≡ at + length (head_bytes t) → k ≡ i + 1 → NodedAll xs p k (children_of t)
  noded-children p k e f = record {
    rest = h.rest;
    is = ap (λ (n : ℕ). drop n (nodes_of xs)) f ∙ below_split ∙ ap (λ (n : ℕ). row_from n (children_of t) ++ h.rest) (sym e);
    later = subst (λ (n : ℕ). Later n h.rest) (omega (arith, tree-length t, e)) h.later;
  }
    where
      below_split : drop (i + 1) (nodes_of xs) ≡ row_from (at + length (head_bytes t)) (children_of t) ++ h.rest
      below_split = let both = noded-split in cc

  -- A scan from the next record on: those that it will pass are the others of the node's.
  pub scan-begins : i + 1 + length (below (get_or xs i blank).end (drop (i + 1) (nodes_of xs))) ≡ i + nodes t
  scan-begins =
      let all : node_of (get_or xs i blank) ∷ below (get_or xs i blank).end (drop (i + 1) (nodes_of xs)) ≡ nodes_from at t =
      sym (scan-step xs (get_or xs i blank).end i noded-within (omega (arith, noded-start, noded-end, some_bytes t)))
      ∙ ap (λ (e : ℕ). below e (drop i (nodes_of xs))) noded-end ∙ noded-below in
      omega (arith, ap length all, node-count at t)

pub scan-counts : (xs : List Lent) (end k : ℕ) → k < length xs → (get_or xs k blank).start < end
    → length (below end (drop k (nodes_of xs))) ≡ suc (length (below end (drop (k + 1) (nodes_of xs))))
scan-counts xs end k h less = ap length (scan-step xs end k h less)

-- ---- an iterator over the columns

-- What it begins with are those of a kind among the records of the node.
pub noded-places : (kind : ℕ) {xs : List Lent} {at i : ℕ} {t : Expr} → Noded xs at i t
    → places_of kind (below (get_or xs i blank).end (drop i (nodes_of xs))) ≡ places_of kind (nodes_from at t)
noded-places kind {xs} {at} {i} {t} h =
    ap (λ (e : ℕ). places_of kind (below e (drop i (nodes_of xs)))) (noded-end h) ∙ ap (places_of kind) (noded-below h)

module _ (xs : List Lent) (kind end k : ℕ) where
  pub left-kind : k < length xs → (get_or xs k blank).start < end → (get_or xs k blank).kind ≡ kind
      → places_of kind (below end (drop k (nodes_of xs)))
      ≡ (get_or xs k blank).start ∷ places_of kind (below end (drop (k + 1) (nodes_of xs)))
  left-kind there less is = ap (places_of kind) (scan-step xs end k there less) ∙ kind-more kind _ _ is

  pub left-other : k < length xs → (get_or xs k blank).start < end → ((get_or xs k blank).kind ≡ kind → ⊥)
      → places_of kind (below end (drop k (nodes_of xs))) ≡ places_of kind (below end (drop (k + 1) (nodes_of xs)))
  left-other there less never =
      ap (places_of kind) (scan-step xs end k there less)
      ∙ other-more kind (node_of (get_or xs k blank)) (below end (drop (k + 1) (nodes_of xs))) never

  pub left-none : k < length xs → end ≤ (get_or xs k blank).start → places_of kind (below end (drop k (nodes_of xs))) ≡ []
  unfolding places_of
  left-none there more = ap (places_of kind) (scan-stops xs end k there more)

  pub left-out : length xs ≤ k → places_of kind (below end (drop k (nodes_of xs))) ≡ []
  unfolding places_of
  left-out h = ap (places_of kind) (scan-out xs end k h)
