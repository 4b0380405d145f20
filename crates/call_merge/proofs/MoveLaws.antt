-- The records of an expression that stands further on are its records moved, and columns that are renumbered change none.
use Prim.Native.Nat.{ℕ, ◌+◌, ◌<◌}
use native.Mathlib.Omega.{arith}
use mathlib.Core.Path.{◌≡◌, refl, sym, ap, ap₂, ◌∙◌}
use mathlib.Core.List.{List, [], ◌∷◌, ◌++◌, map, map-append}
use lib.ListN.{length, length-map}
use Rattle.definitions.specs.Words.Expression.{Expr, column, literal, and, binary, call, other, field, Exprs, nil, cons}
use Rattle.definitions.specs.Words.References.{map_columns, map_columns_all}
use Rattle.definitions.specs.Bytes.Encode.{expr_bytes}
use Rattle.definitions.specs.Bytes.Good.{nodes}
use Rattle.definitions.specs.Bytes.NodeTable.{NodeRecord, kind_byte, record_of, nodes_from, row_from}
use Rattle.theorems.proofs.Columns.{map-length}
use Rattle.theorems.proofs.NodeTables.{node-count}
use Rattle.node_table.specs.Records.{node_of, nodes_of}
use Rattle.node_table.specs.declared.NodeRecord.{NodeRecord as Lent}
use Rattle.filter_tree.proofs.Children.{whole-noded, starts-by, ends-by}
use Rattle.call_merge.specs.MergedNodes.{moved, Movable}

-- ---- moved

abbrev further : (by : ℕ) → NodeRecord → NodeRecord
further by r = record { kind = r.kind; start = r.start + by; end = r.end + by }

record-moves : (d at to : ℕ) (t : Expr) → to ≡ at + d → record_of to t ≡ further d (record_of at t)
unfolding record_of
record-moves d at to t e = ap₂ (λ (s k : ℕ). record { kind = kind_byte t; start = s; end = k }) e (omega (arith, e))

-- Those of two lists of records.
both-move : (d : ℕ) (x y u v : List NodeRecord) → x ≡ map (further d) u → y ≡ map (further d) v → x ++ y ≡ map (further d) (u ++ v)
both-move d x y u v e f = ap₂ ◌++◌ e f ∙ sym (map-append (further d) u v)

-- Those of a node and of both sides, whose bytes are in a row.
sides-move : (d at to : ℕ) (t l r : Expr) → to ≡ at + d → nodes_from (to + 2) l ≡ map (further d) (nodes_from (at + 2) l)
    → nodes_from (to + 2 + length (expr_bytes l)) r ≡ map (further d) (nodes_from (at + 2 + length (expr_bytes l)) r)
    → record_of to t ∷ (nodes_from (to + 2) l ++ nodes_from (to + 2 + length (expr_bytes l)) r)
    ≡ further d (record_of at t) ∷ map (further d) (nodes_from (at + 2) l ++ nodes_from (at + 2 + length (expr_bytes l)) r)
sides-move d at to t l r e one two =
    ap₂ {C = List NodeRecord} (λ a x. a ∷ x) (record-moves d at to t e)
    (both-move d (nodes_from (to + 2) l) (nodes_from (to + 2 + length (expr_bytes l)) r) (nodes_from (at + 2) l)
    (nodes_from (at + 2 + length (expr_bytes l)) r) one two)

mutual
  unfolding nodes_from row_from

  nodes-move : (d at to : ℕ) (t : Expr) → to ≡ at + d → nodes_from to t ≡ map (further d) (nodes_from at t)
  nodes-move d at to (column i g) e = ap (λ (r : NodeRecord). r ∷ []) (record-moves d at to (column i g) e)
  nodes-move d at to (literal y v) e = ap (λ (r : NodeRecord). r ∷ []) (record-moves d at to (literal y v) e)
  nodes-move d at to (and l r) e =
      sides-move d at to (and l r) l r e (nodes-move d (at + 2) (to + 2) l (omega (arith, e)))
      (nodes-move d (at + 2 + length (expr_bytes l)) (to + 2 + length (expr_bytes l)) r (omega (arith, e)))
  nodes-move d at to (binary o l r) e =
      sides-move d at to (binary o l r) l r e (nodes-move d (at + 2) (to + 2) l (omega (arith, e)))
      (nodes-move d (at + 2 + length (expr_bytes l)) (to + 2 + length (expr_bytes l)) r (omega (arith, e)))
  nodes-move d at to (call name ts) e =
      ap₂ {C = List NodeRecord} (λ a x. a ∷ x) (record-moves d at to (call name ts) e)
      (row-moves d (at + (3 + length name)) (to + (3 + length name)) ts (omega (arith, e)))
  nodes-move d at to (other g ts) e =
      ap₂ {C = List NodeRecord} (λ a x. a ∷ x) (record-moves d at to (other g ts) e)
      (row-moves d (at + 4) (to + 4) ts (omega (arith, e)))
  nodes-move d at to (field b g) e = ap (λ (r : NodeRecord). r ∷ []) (record-moves d at to (field b g) e)

  row-moves : (d at to : ℕ) (ts : Exprs) → to ≡ at + d → row_from to ts ≡ map (further d) (row_from at ts)
  row-moves d at to nil e = refl
  row-moves d at to (cons t ts) e =
      both-move d (nodes_from to t) (row_from (to + length (expr_bytes t)) ts) (nodes_from at t) (row_from (at + length (expr_bytes t)) ts)
      (nodes-move d at to t e) (row-moves d (at + length (expr_bytes t)) (to + length (expr_bytes t)) ts (omega (arith, e)))

structs-move : (d : ℕ) (xs : List Lent) → nodes_of (map (moved d) xs) ≡ map (further d) (nodes_of xs)
structs-move d [] = refl
structs-move d (x ∷ xs) = ap {B = List NodeRecord} (λ l. further d (node_of x) ∷ l) (structs-move d xs)

-- A row that has the records of an expression: how long it is, and the row moved.
module _ (at : ℕ) (t : Expr) (row : List Lent) (is : nodes_of row ≡ nodes_from at t) where
  pub row-size : length row ≡ nodes t
  row-size = omega (arith, length-map row node_of, ap length is, node-count at t)

  pub row-moved : (d to : ℕ) → to ≡ at + d → nodes_of (map (moved d) row) ≡ nodes_from to t
  row-moved d to e = structs-move d row ∙ ap (map (further d)) is ∙ sym (nodes-move d at to t e)

  pub movable : (d : ℕ) → at + length (expr_bytes t) + d < 65536 → Movable d row
  movable d short i less =
      let h = whole-noded {xs = row} {at = at} {t = t} is in (
        omega (arith, starts-by h i (omega arith) (omega (arith, less, row-size)), short),
        omega (arith, ends-by h i (omega arith) (omega (arith, less, row-size)), short),
      )

-- ---- renumbered

module _ (f : ℕ → ℕ) where
  kind-stays : (t : Expr) → kind_byte (map_columns f t) ≡ kind_byte t
  unfolding kind_byte map_columns
  kind-stays (column i g) = refl
  kind-stays (literal y v) = refl
  kind-stays (and l r) = refl
  kind-stays (binary o l r) = refl
  kind-stays (call name args) = refl
  kind-stays (other g cs) = refl
  kind-stays (field b g) = refl

  record-stays : (at : ℕ) (t : Expr) → record_of at (map_columns f t) ≡ record_of at t
  unfolding record_of
  record-stays at t =
      ap₂ (λ (k e : ℕ). record { kind = k; start = at; end = at + e }) (kind-stays t) (map-length f t)

  sides-stay : (at : ℕ) (l r : Expr) → nodes_from (at + 2) (map_columns f l) ≡ nodes_from (at + 2) l
      → nodes_from (at + 2 + length (expr_bytes l)) (map_columns f r) ≡ nodes_from (at + 2 + length (expr_bytes l)) r
      → nodes_from (at + 2) (map_columns f l) ++ nodes_from (at + 2 + length (expr_bytes (map_columns f l))) (map_columns f r)
      ≡ nodes_from (at + 2) l ++ nodes_from (at + 2 + length (expr_bytes l)) r
  sides-stay at l r one two =
      ap₂ ◌++◌ one (ap (λ (k : ℕ). nodes_from (at + 2 + k) (map_columns f r)) (map-length f l) ∙ two)

  mutual
    unfolding nodes_from row_from map_columns map_columns_all

    pub nodes-stay : (at : ℕ) (t : Expr) → nodes_from at (map_columns f t) ≡ nodes_from at t
    nodes-stay at (column i g) = ap (λ (r : NodeRecord). r ∷ []) (record-stays at (column i g))
    nodes-stay at (literal y v) = refl
    nodes-stay at (and l r) = ap₂ ◌∷◌ (record-stays at (and l r))
        (sides-stay at l r (nodes-stay (at + 2) l) (nodes-stay (at + 2 + length (expr_bytes l)) r))
    nodes-stay at (binary o l r) = ap₂ ◌∷◌ (record-stays at (binary o l r))
        (sides-stay at l r (nodes-stay (at + 2) l) (nodes-stay (at + 2 + length (expr_bytes l)) r))
    nodes-stay at (call name args) = ap₂ ◌∷◌ (record-stays at (call name args)) (row-stays (at + (3 + length name)) args)
    nodes-stay at (other g cs) = ap₂ ◌∷◌ (record-stays at (other g cs)) (row-stays (at + 4) cs)
    nodes-stay at (field b g) = refl

    row-stays : (at : ℕ) (ts : Exprs) → row_from at (map_columns_all f ts) ≡ row_from at ts
    row-stays at nil = refl
    row-stays at (cons t ts) =
        ap₂ ◌++◌ (nodes-stay at t)
        (ap (λ (k : ℕ). row_from (at + k) (map_columns_all f ts)) (map-length f t) ∙ row-stays (at + length (expr_bytes t)) ts)
