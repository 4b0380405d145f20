-- The And nodes and AND-leaves of an expression are those that the scan of its records finds.
use Rattle.std.specs.Prelude.{if◌then◌else◌}
use Rattle.std.proofs.Math.Option.{Option, none}
use Prim.Native.Nat.{ℕ, suc, ◌+◌, ◌≤◌, ◌<◌}
use native.Mathlib.Omega.{arith}
use mathlib.Core.Path.{◌≡◌, refl, sym, ap, ap₂, ◌∙◌, subst}
use mathlib.Core.Bool.{Bool, true, false, false≢true}
use mathlib.Core.List.{List, [], ◌∷◌, ◌++◌, map, map-append, append_assoc, append-nil}
use lib.ListN.{length, drop, get_or, length-append}
use borrow.Author.Tests.{lt-ltb, le-ltb, ne_eqb}
use Rattle.definitions.specs.Words.Expression.{Expr, column, literal, and, binary, call, other, field, Predicate}
use Rattle.definitions.specs.Words.Leaves.{leaves}
use Rattle.definitions.specs.Filter.OneWalk.{reached}
use Rattle.definitions.specs.Bytes.Encode.{expr_bytes}
use Rattle.definitions.specs.Bytes.Decode.{Columns}
use Rattle.definitions.specs.Bytes.Good.{nodes}
use Rattle.definitions.specs.Bytes.NodeTable.{NodeRecord, kind_byte, record_of, nodes_from, row_from}
use Rattle.theorems.proofs.NodeTables.{node-count}
use Rattle.expression.specs.Nodes.{head_bytes, children_of, Stands}
use Rattle.expression.proofs.Placed.{byte_at}
use Rattle.expression.proofs.Standing.{some_bytes, head-stands, head-fits, first-stands}
use Rattle.filter_tree.proofs.NodeLaws.{nodes-split}
use Rattle.filter_tree.proofs.ColumnPlaces.{and-row, second}
use Rattle.node_table.specs.Records.{node_of, nodes_of}
use Rattle.node_table.specs.declared.NodeRecord.{NodeRecord as Lent}
use Rattle.node_table.proofs.RecordLaws.{blank}
use Rattle.filter_tree.specs.Trees.{Later, Noded, LeafIndex, here, in_left, in_right}
use Rattle.filter_tree.specs.Spines.{and_record, low_after, spine, Reach, is_leaf, leaves_among, matches_among, EachReached, EachLeaf, LeafThere, SpineIs}
use Rattle.filter_tree.proofs.Scans.{drop-here, dropped-out, noded-end}
use Rattle.filter_tree.proofs.Children.{Each, each-node, left-noded, right-noded}

-- ---- one record more

module _ (s : List ℕ) (end low i : ℕ) (r : NodeRecord) (more : List NodeRecord) where
  pub spine-passes : r.start < end → r.start < low → spine s end low i (r ∷ more) ≡ spine s end low (i + 1) more
  unfolding spine
  spine-passes a b = rw (lt-ltb r.start end a, lt-ltb r.start low b)

  pub spine-takes : r.start < end → low ≤ r.start
      → spine s end low i (r ∷ more) ≡ i ∷ spine s end (low_after s r) (i + 1) more
  unfolding spine
  spine-takes a b = rw (lt-ltb r.start end a, le-ltb r.start low b)

  pub spine-stops : end ≤ r.start → spine s end low i (r ∷ more) ≡ []
  unfolding spine
  spine-stops a = rw (le-ltb r.start end a)

-- Those that start before the end of a leaf are passed.
spine-skips : (s : List ℕ) (end low i : ℕ) (x rest : List NodeRecord) → low ≤ end → Each (λ r. r.start < low) x
    → spine s end low i (x ++ rest) ≡ spine s end low (i + length x) rest
spine-skips s end low i [] rest short all = ap (λ (k : ℕ). spine s end low k rest) (omega arith)
spine-skips s end low i (r ∷ x) rest short all =
    spine-passes s end low i r (x ++ rest) (omega (arith, all.0, short)) all.0
    ∙ spine-skips s end low (i + 1) x rest short all.1
    ∙ ap (λ (k : ℕ). spine s end low k rest) (omega arith)

-- ---- an And, and a leaf

module _ {c : Columns} {s : List ℕ} {at : ℕ} where
  pub and-low : (l r : Expr) → Stands c s at (and l r) → and_record s (record_of at (and l r)) ≡ true
  unfolding and_record record_of kind_byte head_bytes
  and-low l r h =
      let zero : get_or s (at + 1) 0 ≡ 0 = byte_at (head-stands h) 1 (omega arith) in
      let room : at + 1 < length s = omega (arith, head-fits h) in
      rw (lt-ltb (at + 1) (length s) room, zero) refl

  binary-low : (o : ℕ) (l r : Expr) → Stands c s at (binary o l r) → and_record s (record_of at (binary o l r)) ≡ false
  unfolding and_record record_of kind_byte head_bytes
  binary-low o l r h =
      let own : get_or s (at + 1) 0 ≡ o = byte_at (head-stands h) 1 (omega arith) in
      let room : at + 1 < length s = omega (arith, head-fits h) in
      rw (lt-ltb (at + 1) (length s) room, own, ne_eqb o 0 (λ e. omega (arith, e, h.in_range.0))) refl

  pub leaf-low : (t : Expr) → Stands c s at t → is_leaf t ≡ true → and_record s (record_of at t) ≡ false
  unfolding and_record record_of kind_byte is_leaf
  leaf-low (column i g) h e = refl
  leaf-low (literal y v) h e = refl
  leaf-low (and l r) h e = absurd (false≢true e)
  leaf-low (binary o l r) h e = binary-low o l r h
  leaf-low (call name ts) h e = refl
  leaf-low (other g ts) h e = refl
  leaf-low (field b g) h e = refl

-- ---- the nodes

unfoldable pub reached_nodes : (at i : ℕ) → Expr → List Reach
reached_nodes at i (column j g) = record { index = i; at = at; tree = column j g } ∷ []
reached_nodes at i (literal y v) = record { index = i; at = at; tree = literal y v } ∷ []
reached_nodes at i (and l r) =
    record { index = i; at = at; tree = and l r }
    ∷ (reached_nodes (at + 2) (i + 1) l ++ reached_nodes (at + 2 + length (expr_bytes l)) (i + 1 + nodes l) r)
reached_nodes at i (binary o l r) = record { index = i; at = at; tree = binary o l r } ∷ []
reached_nodes at i (call name ts) = record { index = i; at = at; tree = call name ts } ∷ []
reached_nodes at i (other g ts) = record { index = i; at = at; tree = other g ts } ∷ []
reached_nodes at i (field b g) = record { index = i; at = at; tree = field b g } ∷ []

-- Their indexes are what the scan finds.
abbrev indexes_of : List Reach → List ℕ
indexes_of = map (λ x. x.index)

leaf-spine : (s : List ℕ) (end low at i : ℕ) {c : Columns} (t : Expr) (rest : List NodeRecord) → Stands c s at t → is_leaf t ≡ true
    → low ≤ at → at + length (expr_bytes t) ≤ end
    → spine s end low i (nodes_from at t ++ rest) ≡ i ∷ spine s end (at + length (expr_bytes t)) (i + nodes t) rest
unfolding record_of low_after
leaf-spine s end low at i t rest stands leaf under short =
    let high : ℕ = at + length (expr_bytes t) in
    let below : List NodeRecord = row_from (at + length (head_bytes t)) (children_of t) in
    let each : Each (λ r. r.start < high) (record_of at t ∷ below) =
    subst (Each (λ r. r.start < high)) (nodes-split at t)
    (each-node (λ r. r.start < high) high (λ p u h. omega (arith, h, some_bytes u)) at t (omega arith)) in
    ap (λ (l : List NodeRecord). spine s end low i (l ++ rest)) (nodes-split at t)
    ∙ spine-takes s end low i (record_of at t) (below ++ rest) (omega (arith, short, some_bytes t)) under
    ∙ ap (λ (b : Bool). i ∷ spine s end (if b then at else high) (i + 1) (below ++ rest)) (leaf-low t stands leaf)
    ∙ ap {B = List ℕ} (λ l. i ∷ l)
    (spine-skips s end high (i + 1) below rest short each.1
    ∙ ap (λ (k : ℕ). spine s end high k rest) (omega (arith, node-count at t, ap length (nodes-split at t))))

spine-is : (s : List ℕ) (end low at i : ℕ) {c : Columns} (t : Expr) (rest : List NodeRecord) → Stands c s at t → low ≤ at
    → at + length (expr_bytes t) ≤ end
    → spine s end low i (nodes_from at t ++ rest)
    ≡ indexes_of (reached_nodes at i t) ++ spine s end (at + length (expr_bytes t)) (i + nodes t) rest
unfolding reached_nodes nodes_from expr_bytes nodes record_of is_leaf low_after
spine-is s end low at i (column j g) rest stands under short = leaf-spine s end low at i (column j g) rest stands refl under short
spine-is s end low at i (literal y v) rest stands under short = leaf-spine s end low at i (literal y v) rest stands refl under short
spine-is s end low at i (binary o l r) rest stands under short = leaf-spine s end low at i (binary o l r) rest stands refl under short
spine-is s end low at i (call name ts) rest stands under short = leaf-spine s end low at i (call name ts) rest stands refl under short
spine-is s end low at i (other g ts) rest stands under short = leaf-spine s end low at i (other g ts) rest stands refl under short
spine-is s end low at i (field b g) rest stands under short = leaf-spine s end low at i (field b g) rest stands refl under short
spine-is s end low at i (and l r) rest stands under short =
    let size : length (expr_bytes l ++ expr_bytes r) ≡ length (expr_bytes l) + length (expr_bytes r) =
    length-append (expr_bytes l) (expr_bytes r) in
    let row = and-row l r stands in
    let p : ℕ = at + 2 in
    let q : ℕ = at + 2 + length (expr_bytes l) in
    let x : List NodeRecord = nodes_from p l in
    let y : List NodeRecord = nodes_from q r in
    let u : List ℕ = indexes_of (reached_nodes p (i + 1) l) in
    let v : List ℕ = indexes_of (reached_nodes q (i + 1 + nodes l) r) in
    spine-takes s end low i (record_of at (and l r)) ((x ++ y) ++ rest) (omega (arith, short)) under
    ∙ ap (λ (b : Bool). i ∷ spine s end (if b then at else (record_of at (and l r)).end) (i + 1) ((x ++ y) ++ rest)) (and-low l r stands)
    ∙ ap {B = List ℕ} (λ z. i ∷ z)
    (ap (spine s end at (i + 1)) (append_assoc x y rest)
    ∙ spine-is s end at p (i + 1) l (y ++ rest) (first-stands row) (omega arith) (omega (arith, short, size))
    ∙ ap (λ (z : List ℕ). u ++ z)
    (spine-is s end q q (i + 1 + nodes l) r rest (second at row) (omega arith) (omega (arith, short, size))
    ∙ ap₂ (λ (a b : ℕ). v ++ spine s end a b rest) (omega (arith, size)) (omega arith))
    ∙ sym (append_assoc u v _)
    ∙ ap (λ (z : List ℕ). z ++ spine s end (at + suc (suc (length (expr_bytes l ++ expr_bytes r)))) (i + suc (nodes l + nodes r)) rest)
    (sym (map-append (λ x. x.index) (reached_nodes p (i + 1) l) (reached_nodes q (i + 1 + nodes l) r))))

-- ---- by index

module _ (s : List ℕ) (xs : List Lent) (end low k : ℕ) where
  pub left-takes : k < length xs → (get_or xs k blank).start < end → low ≤ (get_or xs k blank).start
      → spine s end low k (drop k (nodes_of xs))
      ≡ k ∷ spine s end (low_after s (node_of (get_or xs k blank))) (k + 1) (drop (k + 1) (nodes_of xs))
  left-takes there less under =
      ap (spine s end low k) (drop-here xs k there) ∙ spine-takes s end low k (node_of (get_or xs k blank)) _ less under

  pub left-passes : k < length xs → (get_or xs k blank).start < end → (get_or xs k blank).start < low
      → spine s end low k (drop k (nodes_of xs)) ≡ spine s end low (k + 1) (drop (k + 1) (nodes_of xs))
  left-passes there less over =
      ap (spine s end low k) (drop-here xs k there) ∙ spine-passes s end low k (node_of (get_or xs k blank)) _ less over

  pub left-stops : k < length xs → end ≤ (get_or xs k blank).start → spine s end low k (drop k (nodes_of xs)) ≡ []
  left-stops there more =
      ap (spine s end low k) (drop-here xs k there) ∙ spine-stops s end low k (node_of (get_or xs k blank)) _ more

  pub left-over : length xs ≤ k → spine s end low k (drop k (nodes_of xs)) ≡ []
  unfolding spine
  left-over h = ap (spine s end low k) (dropped-out xs k h)

-- ---- what they are

among-both : (x y : List Reach) → leaves_among (x ++ y) ≡ leaves_among x ++ leaves_among y
unfolding leaves_among
among-both [] y = refl
among-both (a ∷ x) y = go (is_leaf a.tree) (among-both x y)
  where
    go : (b : Bool) → leaves_among (x ++ y) ≡ leaves_among x ++ leaves_among y
        → (if b then a.tree ∷ leaves_among (x ++ y) else leaves_among (x ++ y))
        ≡ (if b then a.tree ∷ leaves_among x else leaves_among x) ++ leaves_among y
    go true e = ap {B = List Expr} (λ l. a.tree ∷ l) e
    go false e = e

leaves-are : (at i : ℕ) (t : Expr) → leaves_among (reached_nodes at i t) ≡ leaves t
unfolding leaves_among reached_nodes leaves is_leaf
leaves-are at i (column j g) = refl
leaves-are at i (literal y v) = refl
leaves-are at i (and l r) =
    among-both (reached_nodes (at + 2) (i + 1) l) (reached_nodes (at + 2 + length (expr_bytes l)) (i + 1 + nodes l) r)
    ∙ ap₂ ◌++◌ (leaves-are (at + 2) (i + 1) l) (leaves-are (at + 2 + length (expr_bytes l)) (i + 1 + nodes l) r)
leaves-are at i (binary o l r) = refl
leaves-are at i (call name ts) = refl
leaves-are at i (other g ts) = refl
leaves-are at i (field b g) = refl

matches-both : (match : Expr → Option Predicate) (x y : List Reach)
    → matches_among match (x ++ y) ≡ matches_among match x ++ matches_among match y
unfolding matches_among
matches-both match [] y = refl
matches-both match (a ∷ x) y =
    ap {B = List (Option Predicate)} (λ l. (if is_leaf a.tree then match a.tree else none) ∷ l) (matches-both match x y)

walk-is : (match : Expr → Option Predicate) (at i : ℕ) (t : Expr) → matches_among match (reached_nodes at i t) ≡ reached match t
unfolding matches_among reached_nodes reached is_leaf
walk-is match at i (column j g) = refl
walk-is match at i (literal y v) = refl
walk-is match at i (and l r) =
    ap {B = List (Option Predicate)} (λ m. none ∷ m)
    (matches-both match (reached_nodes (at + 2) (i + 1) l) (reached_nodes (at + 2 + length (expr_bytes l)) (i + 1 + nodes l) r)
    ∙ ap₂ ◌++◌ (walk-is match (at + 2) (i + 1) l) (walk-is match (at + 2 + length (expr_bytes l)) (i + 1 + nodes l) r))
walk-is match at i (binary o l r) = refl
walk-is match at i (call name ts) = refl
walk-is match at i (other g ts) = refl
walk-is match at i (field b g) = refl

-- ---- which leaf each is

leaf-both : (P : (position index : ℕ) → Type 0) (p : ℕ) (x y : List Reach) → EachLeaf P p x → EachLeaf P (p + length (leaves_among x)) y
    → EachLeaf P p (x ++ y)
unfolding leaves_among
leaf-both P p [] y f g = subst (λ (k : ℕ). EachLeaf P k y) (omega arith) g
leaf-both P p (a ∷ x) y f g = (f.0, go (λ k. leaf-both P k x y) (is_leaf a.tree) f.1 g)
  where
    go : ((k : ℕ) → EachLeaf P k x → EachLeaf P (k + length (leaves_among x)) y → EachLeaf P k (x ++ y)) → (b : Bool)
        → EachLeaf P (if b then suc p else p) x
        → EachLeaf P (p + length (if b then a.tree ∷ leaves_among x else leaves_among x)) y
        → EachLeaf P (if b then suc p else p) (x ++ y)
    go further true f g = further (suc p) f (subst (λ (k : ℕ). EachLeaf P k y) (omega arith) g)
    go further false f g = further p f g

leaf-moved : (P Q : (position index : ℕ) → Type 0) (d : ℕ) → ((p k : ℕ) → P p k → Q (d + p) k) → (p : ℕ) (x : List Reach)
    → EachLeaf P p x → EachLeaf Q (d + p) x
leaf-moved P Q d move p [] f = tt
leaf-moved P Q d move p (a ∷ x) f = (λ e. move p a.index (f.0 e), go (λ k. leaf-moved P Q d move k x) (is_leaf a.tree) f.1)
  where
    go : ((k : ℕ) → EachLeaf P k x → EachLeaf Q (d + k) x) → (b : Bool) → EachLeaf P (if b then suc p else p) x
        → EachLeaf Q (if b then suc (d + p) else (d + p)) x
    go further true f = subst (λ (k : ℕ). EachLeaf Q k x) (omega arith) (further (suc p) f)
    go further false f = further p f

leaf-spots : (at i : ℕ) (t : Expr) → EachLeaf (LeafThere t i) 0 (reached_nodes at i t)
unfolding reached_nodes is_leaf leaves
leaf-spots at i (column j g) = (λ e up. (up, here refl refl refl), tt)
leaf-spots at i (literal y v) = (λ e up. (up, here refl refl refl), tt)
leaf-spots at i (and l r) =
    let x : List Reach = reached_nodes (at + 2) (i + 1) l in
    let y : List Reach = reached_nodes (at + 2 + length (expr_bytes l)) (i + 1 + nodes l) r in
    let on_left : EachLeaf (LeafThere (and l r) i) 0 x =
    leaf-moved (LeafThere l (i + 1)) (LeafThere (and l r) i) 0
    (λ p k f up. ((f i).0, subst (λ (q : ℕ). LeafIndex k (f i).0 up (and l r) i q) (omega arith) (in_left (f i).1))) 0 x
    (leaf-spots (at + 2) (i + 1) l) in
    let on_right : EachLeaf (LeafThere (and l r) i) (length (leaves l) + 0) y =
    leaf-moved (LeafThere r (i + 1 + nodes l)) (LeafThere (and l r) i) (length (leaves l)) (λ p k f up. ((f i).0, in_right (f i).1)) 0 y
    (leaf-spots (at + 2 + length (expr_bytes l)) (i + 1 + nodes l) r) in (
      λ e. absurd (false≢true e),
      leaf-both (LeafThere (and l r) i) 0 x y on_left
          (subst (λ (k : ℕ). EachLeaf (LeafThere (and l r) i) k y) (omega (arith, ap length (leaves-are (at + 2) (i + 1) l))) on_right),
    )
leaf-spots at i (binary o l r) = (λ e up. (up, here refl refl refl), tt)
leaf-spots at i (call name ts) = (λ e up. (up, here refl refl refl), tt)
leaf-spots at i (other g ts) = (λ e up. (up, here refl refl refl), tt)
leaf-spots at i (field b g) = (λ e up. (up, here refl refl refl), tt)

no-more : (s : List ℕ) (end low i : ℕ) (rest : List NodeRecord) → Later end rest → spine s end low i rest ≡ []
unfolding spine
no-more s end low i [] h = refl
no-more s end low i (r ∷ rest) h = spine-stops s end low i r rest h

module _ (c : Columns) (s : List ℕ) (xs : List Lent) where
  reached-both : (x y : List Reach) → EachReached c s xs x → EachReached c s xs y → EachReached c s xs (x ++ y)
  reached-both [] y f g = g
  reached-both (a ∷ x) y f g = (f.0, reached-both x y f.1 g)

  each-reached : (at i : ℕ) (t : Expr) → Stands c s at t → Noded xs at i t → EachReached c s xs (reached_nodes at i t)
  unfolding reached_nodes
  each-reached at i (column j g) stands h = (record { stands = stands; noded = h }, tt)
  each-reached at i (literal y v) stands h = (record { stands = stands; noded = h }, tt)
  each-reached at i (and l r) stands h =
      let row = and-row l r stands in (
        record { stands = stands; noded = h },
        reached-both (reached_nodes (at + 2) (i + 1) l) (reached_nodes (at + 2 + length (expr_bytes l)) (i + 1 + nodes l) r)
            (each-reached (at + 2) (i + 1) l (first-stands row) (left-noded h))
            (each-reached (at + 2 + length (expr_bytes l)) (i + 1 + nodes l) r (second at row) (right-noded h)),
      )
  each-reached at i (binary o l r) stands h = (record { stands = stands; noded = h }, tt)
  each-reached at i (call name ts) stands h = (record { stands = stands; noded = h }, tt)
  each-reached at i (other g ts) stands h = (record { stands = stands; noded = h }, tt)
  each-reached at i (field b g) stands h = (record { stands = stands; noded = h }, tt)

module _ {c : Columns} {s : List ℕ} {xs : List Lent} where
  pub spine-of : {at i : ℕ} {t : Expr} → Stands c s at t → Noded xs at i t
      → SpineIs c s xs i (spine s (get_or xs i blank).end 0 i (drop i (nodes_of xs))) t
  spine-of {at} {i} {t} stands h =
      let high : ℕ = at + length (expr_bytes t) in
      record {
        all = reached_nodes at i t;
        indexes =
            ap₂ (λ (e : ℕ) (l : List NodeRecord). spine s e 0 i l) (noded-end h) h.is
            ∙ spine-is s high 0 at i t h.rest stands (omega arith) (omega arith)
            ∙ ap (λ (l : List ℕ). indexes_of (reached_nodes at i t) ++ l) (no-more s high high (i + nodes t) h.rest h.later)
            ∙ append-nil (indexes_of (reached_nodes at i t));
        leaves = leaves-are at i t;
        walk = λ match. walk-is match at i t;
        each = each-reached c s xs at i t stands h;
        spots = leaf-spots at i t;
      }
