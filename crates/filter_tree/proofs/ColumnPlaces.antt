-- Where the columns of an expression stand: each is a column there, their indexes are the expression's, and elsewhere they stand alike.
use Prim.Native.Nat.{ℕ, ◌+◌, ◌≤◌, ◌<◌}
use native.Mathlib.Omega.{arith}
use mathlib.Core.Path.{◌≡◌, refl, sym, ap, ap₂, ◌∙◌, subst}
use mathlib.Core.List.{List, [], ◌∷◌, ◌++◌, map, map-append, append-nil}
use lib.ListN.{length, length-append}
use Rattle.definitions.specs.Words.Basics.{big_endian}
use Rattle.definitions.specs.Words.Expression.{Expr, column, literal, and, binary, call, other, field, Exprs, nil, cons, count}
use Rattle.definitions.specs.Bytes.Encode.{expr_bytes, exprs_bytes}
use Rattle.definitions.specs.Bytes.Decode.{Columns, index_below, fields}
use Rattle.definitions.specs.Words.References.{columns_of, columns_of_all}
use Rattle.definitions.specs.Bytes.Good.{All, Short, ColumnInRange}
use Rattle.theorems.proofs.Columns.{all_append}
use Rattle.expression.specs.Places.{short_at}
use Rattle.expression.specs.Nodes.{head_bytes, children_of, kind_of, Stands, Row}
use Rattle.expression.proofs.Placed.{front, next}
use Rattle.expression.proofs.Records.{short-is}
use Rattle.expression.proofs.Standing.{head-stands, children-stand, first-stands, rest-stands}

-- ---- where the columns stand

unfoldable mutual
  -- The places of the column nodes of an expression that starts at a place, in prefix order.
  pub columns_at : (at : ℕ) → Expr → List ℕ
  columns_at at (column index tag) = at ∷ []
  columns_at at (literal type bytes) = []
  columns_at at (and l r) = columns_at (at + 2) l ++ columns_at (at + 2 + length (expr_bytes l)) r
  columns_at at (binary operator l r) = columns_at (at + 2) l ++ columns_at (at + 2 + length (expr_bytes l)) r
  columns_at at (call name arguments) = row_columns_at (at + (3 + length name)) arguments
  columns_at at (other tag children) = row_columns_at (at + 4) children
  columns_at at (field bits tag) = []

  -- Those of several expressions, each where the one before ends.
  pub row_columns_at : (at : ℕ) → Exprs → List ℕ
  row_columns_at at nil = []
  row_columns_at at (cons e es) = columns_at at e ++ row_columns_at (at + length (expr_bytes e)) es

-- The index that a column at a place has.
abbrev pub index_in : (s : List ℕ) (at : ℕ) → ℕ
index_in s at = short_at s (at + 1)

-- ---- each of them is a column

both-read : (s x y u v : List ℕ) → map (index_in s) x ≡ u → map (index_in s) y ≡ v → map (index_in s) (x ++ y) ≡ u ++ v
both-read s x y u v e f = map-append (index_in s) x y ∙ ap₂ ◌++◌ e f

index-short : (c : Columns) (i g : ℕ) → ColumnInRange c i g → Short i
index-short (index_below bound) i g h = h.1
index-short fields i g h = absurd h

module _ {c : Columns} {s : List ℕ} where
  -- Both sides of a node stand where their columns are looked for.
  sides-row : {at : ℕ} {t l r : Expr} → Stands c s at t → length (head_bytes t) ≡ 2 → children_of t ≡ cons l (cons r nil)
      → Row c s (at + 2) 2 (cons l (cons r nil))
  unfolding count
  sides-row {at} {t} {l} {r} h two is =
      subst (Row c s (at + 2) 2) is (children-stand h (at + 2) 2 (omega arith) (sym (ap count is)))

  pub second : (at : ℕ) {l r : Expr} → Row c s (at + 2) 2 (cons l (cons r nil)) → Stands c s (at + 2 + length (expr_bytes l)) r
  second at {l} row = first-stands (rest-stands row (at + 2 + length (expr_bytes l)) 1 refl refl)

  pub and-row : {at : ℕ} (l r : Expr) → Stands c s at (and l r) → Row c s (at + 2) 2 (cons l (cons r nil))
  unfolding head_bytes children_of
  and-row l r h = sides-row h refl refl

  binary-row : {at : ℕ} (o : ℕ) (l r : Expr) → Stands c s at (binary o l r) → Row c s (at + 2) 2 (cons l (cons r nil))
  unfolding head_bytes children_of
  binary-row o l r h = sides-row h refl refl

  call-row : {at : ℕ} (name : List ℕ) (ts : Exprs) → Stands c s at (call name ts) → Row c s (at + (3 + length name)) (count ts) ts
  unfolding head_bytes children_of
  call-row {at} name ts h = children-stand h (at + (3 + length name)) (count ts) (simp length-append (omega arith)) refl

  other-row : {at : ℕ} (g : ℕ) (ts : Exprs) → Stands c s at (other g ts) → Row c s (at + 4) (count ts) ts
  unfolding head_bytes children_of big_endian
  other-row {at} g ts h = children-stand h (at + 4) (count ts) refl refl

  rest-row : {at n : ℕ} {t : Expr} {ts : Exprs} → Row c s at n (cons t ts) → Row c s (at + length (expr_bytes t)) (count ts) ts
  unfolding count
  rest-row {at} {n} {t} {ts} h = rest-stands h (at + length (expr_bytes t)) (count ts) refl h.counted

  -- What holds of each column that stands there holds of each column of an expression, by its place.
  module _ (P : ℕ → Type 0) (f : (at index tag : ℕ) → Stands c s at (column index tag) → P at) where
    mutual
      unfolding columns_at row_columns_at

      pub each-column : (at : ℕ) (t : Expr) → Stands c s at t → All P (columns_at at t)
      each-column at (column i g) h = (f at i g h, tt)
      each-column at (literal y v) h = tt
      each-column at (and l r) h =
          let row = and-row l r h in
          all_append P (columns_at (at + 2) l) (columns_at (at + 2 + length (expr_bytes l)) r)
          (each-column (at + 2) l (first-stands row)) (each-column (at + 2 + length (expr_bytes l)) r (second at row))
      each-column at (binary o l r) h =
          let row = binary-row o l r h in
          all_append P (columns_at (at + 2) l) (columns_at (at + 2 + length (expr_bytes l)) r)
          (each-column (at + 2) l (first-stands row)) (each-column (at + 2 + length (expr_bytes l)) r (second at row))
      each-column at (call name ts) h = each_in_row (at + (3 + length name)) (count ts) ts (call-row name ts h)
      each-column at (other g ts) h = each_in_row (at + 4) (count ts) ts (other-row g ts h)
      each-column at (field b g) h = tt

      each_in_row : (at n : ℕ) (ts : Exprs) → Row c s at n ts → All P (row_columns_at at ts)
      each_in_row at n nil h = tt
      each_in_row at n (cons t ts) h =
          all_append P (columns_at at t) (row_columns_at (at + length (expr_bytes t)) ts)
          (each-column at t (first-stands h)) (each_in_row (at + length (expr_bytes t)) (count ts) ts (rest-row h))

  -- Their indexes are the expression's.
  pub column-index : {at : ℕ} (i g : ℕ) → Stands c s at (column i g) → index_in s at ≡ i
  unfolding head_bytes
  column-index {at} i g h =
      short-is (front (big_endian 2 i) (big_endian 2 g) (next (head-stands h) (at + 1) refl)) (index-short c i g h.in_range)

  mutual
    unfolding columns_at row_columns_at columns_of columns_of_all

    pub columns-read : (at : ℕ) (t : Expr) → Stands c s at t → map (index_in s) (columns_at at t) ≡ columns_of t
    columns-read at (column i g) h = ap (λ (k : ℕ). k ∷ []) (column-index i g h)
    columns-read at (literal y v) h = refl
    columns-read at (and l r) h =
        let row = and-row l r h in
        both-read s (columns_at (at + 2) l) (columns_at (at + 2 + length (expr_bytes l)) r) (columns_of l) (columns_of r)
        (columns-read (at + 2) l (first-stands row)) (columns-read (at + 2 + length (expr_bytes l)) r (second at row))
    columns-read at (binary o l r) h =
        let row = binary-row o l r h in
        both-read s (columns_at (at + 2) l) (columns_at (at + 2 + length (expr_bytes l)) r) (columns_of l) (columns_of r)
        (columns-read (at + 2) l (first-stands row)) (columns-read (at + 2 + length (expr_bytes l)) r (second at row))
    columns-read at (call name ts) h = row_read (at + (3 + length name)) (count ts) ts (call-row name ts h)
    columns-read at (other g ts) h = row_read (at + 4) (count ts) ts (other-row g ts h)
    columns-read at (field b g) h = refl

    row_read : (at n : ℕ) (ts : Exprs) → Row c s at n ts → map (index_in s) (row_columns_at at ts) ≡ columns_of_all ts
    row_read at n nil h = refl
    row_read at n (cons t ts) h =
        both-read s (columns_at at t) (row_columns_at (at + length (expr_bytes t)) ts) (columns_of t) (columns_of_all ts)
        (columns-read at t (first-stands h)) (row_read (at + length (expr_bytes t)) (count ts) ts (rest-row h))

-- ---- where they stand in the expression's bytes

mutual
  unfolding columns_at row_columns_at expr_bytes exprs_bytes big_endian

  -- Each has its five bytes there.
  pub columns-within : (low high at : ℕ) (t : Expr) → low ≤ at → at + length (expr_bytes t) ≤ high
      → All (λ p. (low ≤ p) × (p + 5 ≤ high)) (columns_at at t)
  columns-within low high at (column i g) a b = ((a, omega arith), tt)
  columns-within low high at (literal y v) a b = tt
  columns-within low high at (and l r) a b =
      let k = simp length-append at b in
      all_append (λ p. (low ≤ p) × (p + 5 ≤ high)) (columns_at (at + 2) l) (columns_at (at + 2 + length (expr_bytes l)) r)
      (columns-within low high (at + 2) l (omega arith) (omega (arith, k)))
      (columns-within low high (at + 2 + length (expr_bytes l)) r (omega arith) (omega (arith, k)))
  columns-within low high at (binary o l r) a b =
      let k = simp length-append at b in
      all_append (λ p. (low ≤ p) × (p + 5 ≤ high)) (columns_at (at + 2) l) (columns_at (at + 2 + length (expr_bytes l)) r)
      (columns-within low high (at + 2) l (omega arith) (omega (arith, k)))
      (columns-within low high (at + 2 + length (expr_bytes l)) r (omega arith) (omega (arith, k)))
  columns-within low high at (call name ts) a b =
      row-within low high (at + (3 + length name)) ts (omega arith) (omega (arith, simp length-append at b))
  columns-within low high at (other g ts) a b = row-within low high (at + 4) ts (omega arith) (omega (arith, simp length-append at b))
  columns-within low high at (field x g) a b = tt

  row-within : (low high at : ℕ) (ts : Exprs) → low ≤ at → at + length (exprs_bytes ts) ≤ high
      → All (λ p. (low ≤ p) × (p + 5 ≤ high)) (row_columns_at at ts)
  row-within low high at nil a b = tt
  row-within low high at (cons t ts) a b =
      let k = simp length-append at b in
      all_append (λ p. (low ≤ p) × (p + 5 ≤ high)) (columns_at at t) (row_columns_at (at + length (expr_bytes t)) ts)
      (columns-within low high at t a (omega (arith, k)))
      (row-within low high (at + length (expr_bytes t)) ts (omega arith) (omega (arith, k)))

-- Elsewhere they stand alike: f moves what stands from `at` on for n bytes to o.
abbrev pub Moves : (f : ℕ → ℕ) (at o n : ℕ) → Type 0
Moves f at o n = (p : ℕ) → at ≤ p → p < at + n → f p + at ≡ p + o

module _ (f : ℕ → ℕ) where
  both-moved : (x y u v : List ℕ) → map f x ≡ u → map f y ≡ v → map f (x ++ y) ≡ u ++ v
  both-moved x y u v e k = map-append f x y ∙ ap₂ ◌++◌ e k

  mutual
    unfolding columns_at row_columns_at expr_bytes exprs_bytes big_endian

    pub columns-moved : (at o : ℕ) (t : Expr) → Moves f at o (length (expr_bytes t)) → map f (columns_at at t) ≡ columns_at o t
    columns-moved at o (column i g) m = ap (λ (k : ℕ). k ∷ []) (omega (arith, m at (omega arith) (omega arith)))
    columns-moved at o (literal y v) m = refl
    columns-moved at o (and l r) m =
        let size : length (expr_bytes l ++ expr_bytes r) ≡ length (expr_bytes l) + length (expr_bytes r) =
        length-append (expr_bytes l) (expr_bytes r) in
        both-moved (columns_at (at + 2) l) (columns_at (at + 2 + length (expr_bytes l)) r) (columns_at (o + 2) l)
        (columns_at (o + 2 + length (expr_bytes l)) r)
        (columns-moved (at + 2) (o + 2) l (λ p a b. omega (arith, m p (omega arith) (omega (arith, size)))))
        (columns-moved (at + 2 + length (expr_bytes l)) (o + 2 + length (expr_bytes l)) r
        (λ p a b. omega (arith, m p (omega arith) (omega (arith, size)))))
    columns-moved at o (binary q l r) m =
        let size : length (expr_bytes l ++ expr_bytes r) ≡ length (expr_bytes l) + length (expr_bytes r) =
        length-append (expr_bytes l) (expr_bytes r) in
        both-moved (columns_at (at + 2) l) (columns_at (at + 2 + length (expr_bytes l)) r) (columns_at (o + 2) l)
        (columns_at (o + 2 + length (expr_bytes l)) r)
        (columns-moved (at + 2) (o + 2) l (λ p a b. omega (arith, m p (omega arith) (omega (arith, size)))))
        (columns-moved (at + 2 + length (expr_bytes l)) (o + 2 + length (expr_bytes l)) r
        (λ p a b. omega (arith, m p (omega arith) (omega (arith, size)))))
    columns-moved at o (call name ts) m =
        let size : length (expr_bytes (call name ts)) ≡ 3 + length name + length (exprs_bytes ts) = simp length-append (omega arith) in
        row-moved (at + (3 + length name)) (o + (3 + length name)) ts
        (λ p a b. omega (arith, m p (omega arith) (omega (arith, size))))
    columns-moved at o (other g ts) m =
        let size : length (expr_bytes (other g ts)) ≡ 4 + length (exprs_bytes ts) = omega arith in
        row-moved (at + 4) (o + 4) ts (λ p a b. omega (arith, m p (omega arith) (omega (arith, size))))
    columns-moved at o (field x g) m = refl

    row-moved : (at o : ℕ) (ts : Exprs) → Moves f at o (length (exprs_bytes ts)) → map f (row_columns_at at ts) ≡ row_columns_at o ts
    row-moved at o nil m = refl
    row-moved at o (cons t ts) m =
        let size : length (expr_bytes t ++ exprs_bytes ts) ≡ length (expr_bytes t) + length (exprs_bytes ts) =
        length-append (expr_bytes t) (exprs_bytes ts) in
        both-moved (columns_at at t) (row_columns_at (at + length (expr_bytes t)) ts) (columns_at o t)
        (row_columns_at (o + length (expr_bytes t)) ts)
        (columns-moved at o t (λ p a b. m p a (omega (arith, size))))
        (row-moved (at + length (expr_bytes t)) (o + length (expr_bytes t)) ts
        (λ p a b. omega (arith, m p (omega arith) (omega (arith, size)))))

-- There are as many as indexes.
mutual
  unfolding columns_at row_columns_at columns_of columns_of_all

  pub columns-count : (at : ℕ) (t : Expr) → length (columns_at at t) ≡ length (columns_of t)
  columns-count at (column i g) = refl
  columns-count at (literal y v) = refl
  columns-count at (and l r) =
      simp length-append (ap₂ ◌+◌ (columns-count (at + 2) l) (columns-count (at + 2 + length (expr_bytes l)) r))
  columns-count at (binary o l r) =
      simp length-append (ap₂ ◌+◌ (columns-count (at + 2) l) (columns-count (at + 2 + length (expr_bytes l)) r))
  columns-count at (call name ts) = row-columns-count (at + (3 + length name)) ts
  columns-count at (other g ts) = row-columns-count (at + 4) ts
  columns-count at (field b g) = refl

  row-columns-count : (at : ℕ) (ts : Exprs) → length (row_columns_at at ts) ≡ length (columns_of_all ts)
  row-columns-count at nil = refl
  row-columns-count at (cons t ts) =
      simp length-append (ap₂ ◌+◌ (columns-count at t) (row-columns-count (at + length (expr_bytes t)) ts))

-- A node that is no column has those of its children, after its head.
pub columns-below : (at : ℕ) (t : Expr) → (kind_of t ≡ 0 → ⊥)
    → columns_at at t ≡ row_columns_at (at + length (head_bytes t)) (children_of t)
unfolding columns_at row_columns_at kind_of head_bytes children_of big_endian
columns-below at (column i g) n = absurd (n refl)
columns-below at (literal y v) n = refl
columns-below at (and l r) n =
    sym (ap (λ (x : List ℕ). columns_at (at + 2) l ++ x) (append-nil (columns_at (at + 2 + length (expr_bytes l)) r)))
columns-below at (binary o l r) n =
    sym (ap (λ (x : List ℕ). columns_at (at + 2) l ++ x) (append-nil (columns_at (at + 2 + length (expr_bytes l)) r)))
columns-below at (call name ts) n = ap (λ (p : ℕ). row_columns_at p ts) (simp length-append (omega arith))
columns-below at (other g ts) n = refl
columns-below at (field b g) n = refl
