-- The table of a frame's nodes: one record a node, each inside its parent and before the next.
use Prim.Native.Nat.{ℕ, zero, suc, ◌+◌, ◌*◌, ◌≤◌, ◌<◌}
use native.Mathlib.Omega.{arith}
use mathlib.Core.Path.{◌≡◌, refl, sym, ap, ap₂, ◌∙◌, subst}
use mathlib.Core.Bool.{true, ◌&&◌, false≢true}
use mathlib.Core.List.{List, [], ◌∷◌, ◌++◌, append-nil, append_assoc}
use lib.ListN.{length, take, drop, length-append, length-map}
use lib.Dec.{eqb}
use borrow.Author.Tests.{eqb-true, eq-eqb}
use Rattle.definitions.specs.Words.Basics.{big_endian}
use Rattle.definitions.specs.Words.Expression.{Expr, column, literal, and, binary, call, other, field, Exprs, nil, cons}
use Rattle.definitions.specs.Words.Limits.{most_bytes}
use Rattle.definitions.specs.Bytes.Encode.{expr_bytes, exprs_bytes, frame_bytes, plan_bytes}
use Rattle.definitions.specs.Filter.Exchange.{exchange_record, exchange_frame}
use Rattle.definitions.specs.Bytes.Good.{nodes, nodes_all}
use Rattle.definitions.specs.Bytes.NodeTable.{NodeRecord, kind_byte, record_of, nodes_from, row_from, node_table, same_record, begins_with}
use Rattle.definitions.specs.Calls.Base.{written_over}
use Rattle.definitions.specs.Claims.Table.{Nested, no_node, first_node, Rising, TableNests, Within, PositionsFit, TableExchanged, BeginsExactly}
use Rattle.theorems.proofs.Tools.{and-both}
use Rattle.theorems.proofs.ExchangeGood.{frame-length}

-- ---- one record a node

mutual
  unfolding nodes_from nodes row_from nodes_all

  pub node-count : (at : ℕ) (e : Expr) → length (nodes_from at e) ≡ nodes e
  node-count at (column index tag) = refl
  node-count at (literal type bytes) = refl
  node-count at (and l r) =
      ap suc (length-append (nodes_from (at + 2) l) (nodes_from (at + 2 + length (expr_bytes l)) r)
      ∙ ap₂ ◌+◌ (node-count (at + 2) l) (node-count (at + 2 + length (expr_bytes l)) r))
  node-count at (binary operator l r) =
      ap suc (length-append (nodes_from (at + 2) l) (nodes_from (at + 2 + length (expr_bytes l)) r)
      ∙ ap₂ ◌+◌ (node-count (at + 2) l) (node-count (at + 2 + length (expr_bytes l)) r))
  node-count at (call name arguments) = ap suc (row_count (at + (3 + length name)) arguments)
  node-count at (other tag children) = ap suc (row_count (at + 4) children)
  node-count at (field bits tag) = refl

  pub row_count : (at : ℕ) (es : Exprs) → length (row_from at es) ≡ nodes_all es
  row_count at nil = refl
  row_count at (cons e es) =
      length-append (nodes_from at e) (row_from (at + length (expr_bytes e)) es)
      ∙ ap₂ ◌+◌ (node-count at e) (row_count (at + length (expr_bytes e)) es)

-- ---- they nest

-- A row between places that are equal to these.
moved : {a a' b b' : ℕ} {t : List NodeRecord} → a ≡ a' → b ≡ b' → Nested a b t → Nested a' b' t
moved {a} {a'} {b} {b'} {t} p q h = subst (λ (x : ℕ). Nested x b' t) p (subst (λ (x : ℕ). Nested a x t) q h)

-- A node whose children fill its bytes after its head, before others.
headed : (at head : ℕ) (e : Expr) (end : ℕ) (inside more : List NodeRecord) → 0 < head
    → Nested (at + head) (at + length (expr_bytes e)) inside → Nested (at + length (expr_bytes e)) end more
    → Nested at end (record_of at e ∷ (inside ++ more))
unfolding record_of
headed at head e end inside more some within after = first_node {start = at} {first = at + head} (kind_byte e) (omega arith) within after

-- An expression's records before others; both sides of a binary node.
abbrev Before : (at : ℕ) → Expr → Type 0
Before at e = (end : ℕ) (more : List NodeRecord) → Nested (at + length (expr_bytes e)) end more → Nested at end (nodes_from at e ++ more)

nested-both : (at : ℕ) (l r : Expr) → Before (at + 2) l → Before (at + 2 + length (expr_bytes l)) r
    → Nested (at + 2) (at + suc (suc (length (expr_bytes l ++ expr_bytes r))))
    (nodes_from (at + 2) l ++ nodes_from (at + 2 + length (expr_bytes l)) r)
nested-both at l r left right =
    let place : ℕ = at + 2 + length (expr_bytes l) in
    let alone : Nested place (place + length (expr_bytes r)) (nodes_from place r) =
    subst (Nested place (place + length (expr_bytes r))) (append-nil (nodes_from place r))
    (right (place + length (expr_bytes r)) [] no_node) in
    moved refl (simp length-append (omega arith)) (left (place + length (expr_bytes r)) (nodes_from place r) alone)

mutual
  unfolding nodes_from row_from expr_bytes exprs_bytes big_endian

  nested-node : (at : ℕ) (e : Expr) (end : ℕ) (more : List NodeRecord) → Nested (at + length (expr_bytes e)) end more
      → Nested at end (nodes_from at e ++ more)
  nested-node at (column index tag) end more h = headed at 5 (column index tag) end [] more (omega arith) no_node h
  nested-node at (literal type bytes) end more h = headed at 10 (literal type bytes) end [] more (omega arith) no_node h
  nested-node at (and l r) end more h =
      headed at 2 (and l r) end _ more (omega arith)
      (nested-both at l r (λ z t k. nested-node (at + 2) l z t k) (λ z t k. nested-node (at + 2 + length (expr_bytes l)) r z t k)) h
  nested-node at (binary operator l r) end more h =
      headed at 2 (binary operator l r) end _ more (omega arith)
      (nested-both at l r (λ z t k. nested-node (at + 2) l z t k) (λ z t k. nested-node (at + 2 + length (expr_bytes l)) r z t k)) h
  nested-node at (call name arguments) end more h =
      headed at (3 + length name) (call name arguments) end _ more (omega arith)
      (moved refl (simp length-append (omega arith)) (nested-row (at + (3 + length name)) arguments)) h
  nested-node at (other tag children) end more h =
      headed at 4 (other tag children) end _ more (omega arith)
      (moved refl (simp length-append (omega arith)) (nested-row (at + 4) children)) h
  nested-node at (field bits tag) end more h = headed at 4 (field bits tag) end [] more (omega arith) no_node h

  nested-row : (at : ℕ) (es : Exprs) → Nested at (at + length (exprs_bytes es)) (row_from at es)
  nested-row at nil = moved refl (omega arith) no_node
  nested-row at (cons e es) =
      nested-node at e _ _
      (moved refl (simp length-append (omega arith)) (nested-row (at + length (expr_bytes e)) es))

-- ---- starts rise

-- Records that start at a place at the least, each after the one before.
abbrev From : (low : ℕ) → List NodeRecord → Type 0
From low [] = Unit {0}
From low (a ∷ more) = (low ≤ a.start) × From (suc a.start) more

lower : (low low' : ℕ) (t : List NodeRecord) → low' ≤ low → From low t → From low' t
lower low low' [] h f = tt
lower low low' (a ∷ more) h f = (omega (arith, h, f.0), f.1)

nested-from : {a b : ℕ} {t : List NodeRecord} → Nested a b t → (rest : List NodeRecord) → From b rest → From a (t ++ rest)
nested-from no_node rest f = f
nested-from (first_node {start} {first} {inside = inside} {more} kind below inner after) rest f = (
  omega arith,
  lower first (suc start) ((inside ++ more) ++ rest) (omega (arith, below))
      (rw (append_assoc inside more rest) (nested-from inner (more ++ rest) (nested-from after rest f))),
)

rising : (low : ℕ) (t : List NodeRecord) → From low t → Rising t
rising low [] f = tt
rising low (a ∷ []) f = tt
rising low (a ∷ (b ∷ more)) f = (omega (arith, f.1.0), rising (suc a.start) (b ∷ more) f.1)

-- ---- the claims

pub table-nests-by : TableNests
unfolding node_table
table-nests-by F =
    let root : ℕ = 3 + 5 * length F.records in
    let all : Nested root (length (frame_bytes F)) (nodes_from root F.expr) =
    subst (Nested root (length (frame_bytes F))) (append-nil (nodes_from root F.expr))
    (nested-node root F.expr (length (frame_bytes F)) [] (moved (frame-length F) refl no_node)) in (
      node-count root F.expr,
      all,
      rising root (nodes_from root F.expr)
          (subst (From root) (append-nil (nodes_from root F.expr)) (nested-from all [] tt)),
    )

pub table-exchanged-by : TableExchanged
unfolding node_table exchange_frame
table-exchanged-by F = ap (λ (k : ℕ). nodes_from (3 + 5 * k) F.expr) (length-map F.records exchange_record)

-- ---- tables that begin with records

same-record : (a b : NodeRecord) → same_record a b ≡ true → a ≡ b
unfolding same_record
same-record a b e =
    let (kind, others) = and-both (eqb a.kind b.kind) _ e in
    let (start, end) = and-both (eqb a.start b.start) (eqb a.end b.end) others in
    let k : a.kind ≡ b.kind = eqb-true a.kind b.kind kind in
    let s : a.start ≡ b.start = eqb-true a.start b.start start in
    let z : a.end ≡ b.end = eqb-true a.end b.end end in
    ap (λ (x : ℕ). record { kind = x; start = a.start; end = a.end }) k
    ∙ ap₂ (λ (x y : ℕ). record { kind = b.kind; start = x; end = y }) s z

record_same : (a : NodeRecord) → same_record a a ≡ true
unfolding same_record
record_same a = rw (eq-eqb a.kind a.kind refl, eq-eqb a.start a.start refl, eq-eqb a.end a.end refl) refl

begins-taken : (records table : List NodeRecord) → begins_with records table ≡ true → take (length records) table ≡ records
unfolding begins_with
begins-taken [] table e = refl
begins-taken (r ∷ records) [] e = absurd (false≢true e)
begins-taken (r ∷ records) (t ∷ table) e =
    let (same, more) = and-both (same_record r t) (begins_with records table) e in
    ap₂ (λ (x : NodeRecord) (y : List NodeRecord). x ∷ y) (sym (same-record r t same)) (begins-taken records table more)

begins-self : (records more : List NodeRecord) → begins_with records (records ++ more) ≡ true
unfolding begins_with
begins-self [] more = refl
begins-self (r ∷ records) more = ap₂ ◌&&◌ (record_same r) (begins-self records more)

first-and-rest : (k : ℕ) (table : List NodeRecord) → take k table ++ drop k table ≡ table
first-and-rest zero table = refl
first-and-rest (suc k) [] = refl
first-and-rest (suc k) (t ∷ table) = ap {B = List NodeRecord} (λ x. t ∷ x) (first-and-rest k table)

pub begins-exactly-by : BeginsExactly
begins-exactly-by records table = (
  begins-taken records table,
  λ e. subst (λ (x : List NodeRecord). begins_with records x ≡ true)
      (ap (λ (x : List NodeRecord). x ++ drop (length records) table) (sym e) ∙ first-and-rest (length records) table)
      (begins-self records (drop (length records) table)),
)

-- A table that was filled begins with its records.
pub begins-filled : (records table : List NodeRecord) → begins_with records (written_over records table) ≡ true
unfolding written_over
begins-filled records table = begins-self records (drop (length records) table)

-- ---- request 11

nested-low : {a b : ℕ} {t : List NodeRecord} → Nested a b t → a ≤ b
nested-low no_node = omega arith
nested-low (first_node kind below inner after) = omega (arith, nested-low inner, nested-low after)

within_both : (most : ℕ) (s t : List NodeRecord) → Within most s → Within most t → Within most (s ++ t)
within_both most [] t f g = g
within_both most (r ∷ s) t f g = (f.0, f.1, within_both most s t f.2 g)

nested-within : {a b : ℕ} {t : List NodeRecord} (most : ℕ) → Nested a b t → b ≤ most → Within most t
nested-within most no_node h = tt
nested-within most (first_node {inside = inside} {more} kind below inner after) h =
    let low = nested-low inner in
    let high = nested-low after in (
      omega arith,
      omega arith,
      within_both most inside more (nested-within most inner (omega arith)) (nested-within most after h),
    )

pub positions-fit-by : PositionsFit
unfolding plan_bytes
positions-fit-by F good = nested-within most_bytes (table-nests-by F).1 good.few_bytes
