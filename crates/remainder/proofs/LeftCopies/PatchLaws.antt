-- Bytes whose columns are renumbered are the bytes with the new indexes put at the places of the columns.
use Prim.Native.Nat.{ℕ, ◌+◌}
use native.Mathlib.Omega.{arith}
use mathlib.Core.Path.{◌≡◌, refl, sym, ap, ap₂, ◌∙◌}
use mathlib.Core.List.{List, [], ◌∷◌, ◌++◌, append_assoc}
use lib.ListN.{length, get_or, length-append}
use Rattle.definitions.specs.Words.Expression.{Expr, column, literal, and, binary, call, other, field, Exprs, nil, cons}
use Rattle.definitions.specs.Bytes.Encode.{expr_bytes, exprs_bytes}
use Rattle.definitions.specs.Words.References.{columns_of, columns_of_all, map_columns, map_columns_all}
use Rattle.theorems.proofs.Cases.{whole}
use Rattle.theorems.proofs.Columns.{map-length}
use Rattle.expression.specs.Nodes.{head_bytes, children_of, kind_of}
use Rattle.expression.proofs.OfKind.{no-own-columns}
use Rattle.expression.proofs.Standing.{head-children}
use Rattle.filter_tree.proofs.ColumnPlaces.{columns_at, row_columns_at, columns-count, columns-below}
use Rattle.plan_writer.specs.Copies.{copy_of, copies_of}
use Rattle.plan_writer.proofs.Copying.{map-node, put_index, column-between}

-- ---- indexes put at their places

-- For each column at a place the index that a table has for it.
unfoldable pub put_indexes : (to places indexes : List ℕ) (s : List ℕ) → List ℕ
put_indexes to [] indexes s = s
put_indexes to (p ∷ places) [] s = s
put_indexes to (p ∷ places) (i ∷ indexes) s = put_indexes to places indexes (put_index (p + 1) (get_or to i 0) s)

put-append : (to x y i j s : List ℕ) → length x ≡ length i
    → put_indexes to (x ++ y) (i ++ j) s ≡ put_indexes to y j (put_indexes to x i s)
unfolding put_indexes
put-append to [] y [] j s e = refl
put-append to [] y (a ∷ i) j s e = absurd (omega arith)
put-append to (p ∷ x) y [] j s e = absurd (omega arith)
put-append to (p ∷ x) y (a ∷ i) j s e = put-append to x y i j (put_index (p + 1) (get_or to a 0) s) (omega arith)

-- ---- the law

module _ (to : List ℕ) where
  -- Of what stands behind a and before z.
  abbrev Law : Expr → Type 0
  Law t = (a z : List ℕ) (at : ℕ) → at ≡ length a
      → put_indexes to (columns_at at t) (columns_of t) (a ++ (expr_bytes t ++ z)) ≡ a ++ (copy_of to t ++ z)

  abbrev RowLaw : Exprs → Type 0
  RowLaw ts = (a z : List ℕ) (at : ℕ) → at ≡ length a
      → put_indexes to (row_columns_at at ts) (columns_of_all ts) (a ++ (exprs_bytes ts ++ z)) ≡ a ++ (copies_of to ts ++ z)

  a-column : (i g : ℕ) → Law (column i g)
  unfolding put_indexes columns_at columns_of map_columns
  a-column i g a z at e = column-between a z i g (get_or to i 0) (at + 1) (omega arith)

  -- A node that is no column is its head and its children.
  above : (t : Expr) → (kind_of t ≡ 0 → ⊥) → RowLaw (children_of t) → Law t
  above t n row a z at e =
      let h : List ℕ = head_bytes t in
      let x : List ℕ = exprs_bytes (children_of t) in
      let y : List ℕ = copies_of to (children_of t) in
      let regroup = λ (u : List ℕ). ap (λ (l : List ℕ). a ++ l) (append_assoc h u z) ∙ sym (append_assoc a h (u ++ z)) in
      let bytes : a ++ (expr_bytes t ++ z) ≡ (a ++ h) ++ (x ++ z) =
      ap (λ (l : List ℕ). a ++ (l ++ z)) (head-children t) ∙ regroup x in
      let copied : a ++ (copy_of to t ++ z) ≡ (a ++ h) ++ (y ++ z) =
      ap (λ (l : List ℕ). a ++ (l ++ z)) (map-node (λ index. get_or to index 0) t n) ∙ regroup y in
      ap₂ (λ (p i : List ℕ). put_indexes to p i (a ++ (expr_bytes t ++ z))) (columns-below at t n) (no-own-columns t n)
      ∙ ap (put_indexes to (row_columns_at (at + length h) (children_of t)) (columns_of_all (children_of t))) bytes
      ∙ row (a ++ h) z (at + length h) (omega (arith, length-append a h)) ∙ sym copied

  no-children : RowLaw nil
  unfolding put_indexes row_columns_at columns_of_all exprs_bytes map_columns_all
  no-children a z at e = refl

  one-more : (t : Expr) (ts : Exprs) → Law t → RowLaw ts → RowLaw (cons t ts)
  unfolding row_columns_at columns_of_all exprs_bytes map_columns_all
  one-more t ts one row a z at e =
      let x : List ℕ = expr_bytes t in
      let xs : List ℕ = exprs_bytes ts in
      let y : List ℕ = copy_of to t in
      let ys : List ℕ = copies_of to ts in
      let places : List ℕ = row_columns_at (at + length x) ts in
      let size : length y ≡ length x = map-length (λ index. get_or to index 0) t in
      put-append to (columns_at at t) places (columns_of t) (columns_of_all ts) (a ++ ((x ++ xs) ++ z)) (columns-count at t)
      ∙ ap (put_indexes to places (columns_of_all ts))
      (ap (λ (l : List ℕ). put_indexes to (columns_at at t) (columns_of t) (a ++ l)) (append_assoc x xs z)
      ∙ one a (xs ++ z) at e ∙ sym (append_assoc a y (xs ++ z)))
      ∙ row (a ++ y) z (at + length x) (omega (arith, length-append a y, size))
      ∙ append_assoc a y (ys ++ z) ∙ ap (λ (l : List ℕ). a ++ l) (sym (append_assoc y ys z))

  pub renumbered : (t : Expr) → Law t
  unfolding kind_of children_of
  renumbered = whole Law RowLaw a-column (λ y v. above (literal y v) (λ k. omega arith) no-children)
      (λ l r x y. above (and l r) (λ k. omega arith) (one-more l (cons r nil) x (one-more r nil y no-children)))
      (λ o l r x y. above (binary o l r) (λ k. omega arith) (one-more l (cons r nil) x (one-more r nil y no-children)))
      (λ n ts x. above (call n ts) (λ k. omega arith) x) (λ g ts x. above (other g ts) (λ k. omega arith) x)
      (λ b g. above (field b g) (λ k. omega arith) no-children) no-children one-more
