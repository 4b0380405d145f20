-- From the records of an expression to those of its children, and what holds of each of them.
use Prim.Native.Nat.{ℕ, ◌+◌, ◌≤◌, ◌<◌}
use native.Mathlib.Omega.{arith}
use mathlib.Core.Path.{◌≡◌, refl, sym, ap, ◌∙◌, subst}
use mathlib.Core.List.{List, [], ◌∷◌, ◌++◌, append_assoc, append-nil}
use mathlib.Core.Logic.{◌⊎◌, inl, inr}
use Rattle.std.proofs.Math.Nat.{eq-or-lt_of_le}
use lib.ListN.{length, take, drop, get_or, length-append, length-take, length-drop, length-map}
use lib.Seq.{drop-drop, drop-append_seam}
use Rattle.definitions.specs.Words.Basics.{big_endian}
use Rattle.definitions.specs.Words.Expression.{Expr, column, literal, and, binary, call, other, field, Exprs, nil, cons}
use Rattle.definitions.specs.Bytes.Encode.{expr_bytes, exprs_bytes}
use Rattle.definitions.specs.Bytes.Good.{nodes}
use Rattle.definitions.specs.Bytes.NodeTable.{NodeRecord, record_of, nodes_from, row_from}
use Rattle.theorems.proofs.NodeTables.{node-count}
use Rattle.expression.specs.Nodes.{head_bytes, children_of}
use Rattle.node_table.proofs.Filling.{map-take}
use Rattle.filter_tree.proofs.NodeLaws.{nodes-split, nodes-below}
use Rattle.node_table.specs.Records.{node_of, nodes_of}
use Rattle.node_table.specs.declared.NodeRecord.{NodeRecord as Lent}
use Rattle.node_table.proofs.RecordLaws.{blank}
use Rattle.filter_tree.specs.Trees.{Later, Noded, NodedAll, Recorded}
use Rattle.std.proofs.lemmas.List.{drop-take}
use Rattle.filter_tree.proofs.Scans.{drop-here, noded-children}

-- ---- several expressions

starts : (at : ℕ) (t : Expr) → at ≤ (record_of at t).start
unfolding record_of
starts at t = omega arith

-- The records of a row start where it does.
row-later : (at : ℕ) (ts : Exprs) (rest : List NodeRecord) → Later (at + length (exprs_bytes ts)) rest → Later at (row_from at ts ++ rest)
unfolding row_from exprs_bytes
row-later at nil [] h = tt
row-later at nil (r ∷ rest) h = omega (arith, h)
row-later at (cons t ts) rest h =
    subst (λ (l : List NodeRecord). Later at ((l ++ row_from (at + length (expr_bytes t)) ts) ++ rest)) (sym (nodes-split at t))
    (starts at t)

module _ {xs : List Lent} {at i : ℕ} {t : Expr} {ts : Exprs} (h : NodedAll xs at i (cons t ts)) where
  row-is : drop i (nodes_of xs) ≡ nodes_from at t ++ (row_from (at + length (expr_bytes t)) ts ++ h.rest)
  unfolding row_from
  row-is = h.is ∙ append_assoc (nodes_from at t) (row_from (at + length (expr_bytes t)) ts) h.rest

  rest-later : Later (at + length (expr_bytes t) + length (exprs_bytes ts)) h.rest
  unfolding exprs_bytes
  rest-later = subst (λ (n : ℕ). Later n h.rest) (simp length-append (omega arith)) h.later

  pub noded-first : Noded xs at i t
  noded-first = record {
    rest = row_from (at + length (expr_bytes t)) ts ++ h.rest;
    is = row-is;
    later = row-later (at + length (expr_bytes t)) ts h.rest rest-later;
  }

  pub noded-rest : (p k : ℕ) → p ≡ at + length (expr_bytes t) → k ≡ i + nodes t → NodedAll xs p k ts
  noded-rest p k e f = record {
    rest = h.rest;
    is =
        ap (λ (n : ℕ). drop n (nodes_of xs)) (omega (arith, f, node-count at t))
        ∙ sym (drop-drop (length (nodes_from at t)) i (nodes_of xs)) ∙ ap (drop (length (nodes_from at t))) row-is
        ∙ drop-append_seam (nodes_from at t) (row_from (at + length (expr_bytes t)) ts ++ h.rest)
        ∙ ap (λ (n : ℕ). row_from n ts ++ h.rest) (sym e);
    later = subst (λ (n : ℕ). Later n h.rest) (omega (arith, e)) rest-later;
  }

-- ---- both sides of an And

module _ {xs : List Lent} {at i : ℕ} {l r : Expr} (h : Noded xs at i (and l r)) where
  sides : NodedAll xs (at + 2) (i + 1) (cons l (cons r nil))
  unfolding head_bytes children_of
  sides = noded-children h (at + 2) (i + 1) refl refl

  pub left-noded : Noded xs (at + 2) (i + 1) l
  left-noded = noded-first sides

  pub right-noded : Noded xs (at + 2 + length (expr_bytes l)) (i + 1 + nodes l) r
  right-noded = noded-first (noded-rest sides _ _ refl refl)

-- ---- each record

-- It holds of each.
abbrev pub Each : (NodeRecord → Type 0) → List NodeRecord → Type 0
Each P [] = Unit {0}
Each P (r ∷ more) = P r × Each P more

pub each-both : (P : NodeRecord → Type 0) (x y : List NodeRecord) → Each P x → Each P y → Each P (x ++ y)
each-both P [] y a b = b
each-both P (r ∷ x) y a b = (a.0, each-both P x y a.1 b)

-- What holds of the record of every expression that ends by an end holds of all records of such an expression.
module _ (P : NodeRecord → Type 0) (high : ℕ) (f : (at : ℕ) (t : Expr) → at + length (expr_bytes t) ≤ high → P (record_of at t)) where
  mutual
    unfolding nodes_from row_from expr_bytes exprs_bytes big_endian

    pub each-node : (at : ℕ) (t : Expr) → at + length (expr_bytes t) ≤ high → Each P (nodes_from at t)
    each-node at (column i g) h = (f at (column i g) h, tt)
    each-node at (literal y v) h = (f at (literal y v) h, tt)
    each-node at (and l r) h =
        let k = simp length-append at h in (
          f at (and l r) h,
          each-both P (nodes_from (at + 2) l) (nodes_from (at + 2 + length (expr_bytes l)) r)
              (each-node (at + 2) l (omega (arith, k))) (each-node (at + 2 + length (expr_bytes l)) r (omega (arith, k))),
        )
    each-node at (binary o l r) h =
        let k = simp length-append at h in (
          f at (binary o l r) h,
          each-both P (nodes_from (at + 2) l) (nodes_from (at + 2 + length (expr_bytes l)) r)
              (each-node (at + 2) l (omega (arith, k))) (each-node (at + 2 + length (expr_bytes l)) r (omega (arith, k))),
        )
    each-node at (call name ts) h =
        (f at (call name ts) h, each-row (at + (3 + length name)) ts (omega (arith, simp length-append at h)))
    each-node at (other g ts) h = (f at (other g ts) h, each-row (at + 4) ts (omega (arith, simp length-append at h)))
    each-node at (field b g) h = (f at (field b g) h, tt)

    each-row : (at : ℕ) (ts : Exprs) → at + length (exprs_bytes ts) ≤ high → Each P (row_from at ts)
    each-row at nil h = tt
    each-row at (cons t ts) h =
        let k = simp length-append at h in
        each-both P (nodes_from at t) (row_from (at + length (expr_bytes t)) ts) (each-node at t (omega (arith, k)))
        (each-row (at + length (expr_bytes t)) ts (omega (arith, k)))

-- By its index.
pub each-at : (P : NodeRecord → Type 0) (xs : List Lent) (i : ℕ) (l rest : List NodeRecord) → drop i (nodes_of xs) ≡ l ++ rest → Each P l
    → (m : ℕ) → i ≤ m → m < i + length l → P (node_of (get_or xs m blank))
each-at P xs i [] rest e all m low high = absurd (omega (arith, low, high))
each-at P xs i (r ∷ l) rest e all m low high =
    let there : i < length xs = omega (arith, length-drop i (nodes_of xs), length-map xs node_of, ap length e) in
    let both : node_of (get_or xs i blank) ∷ drop (i + 1) (nodes_of xs) ≡ r ∷ (l ++ rest) = sym (drop-here xs i there) ∙ e in
    let one : node_of (get_or xs i blank) ≡ r = cc in
    let more : drop (i + 1) (nodes_of xs) ≡ l ++ rest = cc in
    go one (λ less. each-at P xs (i + 1) l rest more all.1 m (omega arith) (omega (arith, high))) (eq-or-lt_of_le low)
  where
    go : node_of (get_or xs i blank) ≡ r → (i < m → P (node_of (get_or xs m blank))) → (i ≡ m) ⊎ (i < m) → P (node_of (get_or xs m blank))
    go one further (inl e) = subst (λ (k : ℕ). P (node_of (get_or xs k blank))) e (subst P (sym one) all.0)
    go one further (inr less) = further less

-- All records of a node start and end by its end.
pub ends-by : {xs : List Lent} {at i : ℕ} {t : Expr} → Noded xs at i t → (m : ℕ) → i ≤ m → m < i + nodes t
    → (get_or xs m blank).end ≤ at + length (expr_bytes t)
unfolding record_of
ends-by {xs} {at} {i} {t} h m low high =
    each-at (λ r. r.end ≤ at + length (expr_bytes t)) xs i (nodes_from at t) h.rest h.is
    (each-node (λ r. r.end ≤ at + length (expr_bytes t)) (at + length (expr_bytes t)) (λ at t h. h) at t (omega arith))
    m low (omega (arith, high, node-count at t))

pub starts-by : {xs : List Lent} {at i : ℕ} {t : Expr} → Noded xs at i t → (m : ℕ) → i ≤ m → m < i + nodes t
    → (get_or xs m blank).start ≤ at + length (expr_bytes t)
unfolding record_of
starts-by {xs} {at} {i} {t} h m low high =
    each-at (λ r. r.start ≤ at + length (expr_bytes t)) xs i (nodes_from at t) h.rest h.is
    (each-node (λ r. r.start ≤ at + length (expr_bytes t)) (at + length (expr_bytes t)) (λ at t h. omega (arith, h)) at t (omega arith))
    m low (omega (arith, high, node-count at t))

-- ---- a whole table

-- Records that are those of an expression, and a table that begins with them, cut to them.
pub whole-noded : {xs : List Lent} {at : ℕ} {t : Expr} → nodes_of xs ≡ nodes_from at t → Noded xs at 0 t
whole-noded {xs} {at} {t} e = record { rest = []; is = e ∙ sym (append-nil (nodes_from at t)); later = tt }

-- A row that has the records of an expression, cut to them, is these.
pub recorded-whole : (row : List Lent) (at : ℕ) (t : Expr) {m : ℕ} → Recorded row at 0 t → m ≡ nodes t
    → nodes_of (take m row) ≡ nodes_from at t
recorded-whole row at t {m} is e =
    map-take node_of m row ∙ ap (λ (k : ℕ). take k (nodes_of row)) (omega (arith, e, node-count at t)) ∙ is

-- A row that has the records of an expression from an index on, cut where they end.
pub recorded-noded : (row : List Lent) {at i : ℕ} {t : Expr} {m : ℕ} → Recorded row at i t → m ≡ i + nodes t → Noded (take m row) at i t
recorded-noded row {at} {i} {t} is e = record {
  rest = [];
  is =
      ap (λ (k : ℕ). drop i (nodes_of (take k row))) e ∙ ap (drop i) (map-take node_of (i + nodes t) row)
      ∙ drop-take i (nodes t) (nodes_of row) ∙ ap (λ (k : ℕ). take k (drop i (nodes_of row))) (sym (node-count at t)) ∙ is
      ∙ sym (append-nil (nodes_from at t));
  later = tt;
}

-- So it is long enough.
pub recorded-within : (row : List Lent) (at i : ℕ) (t : Expr) → Recorded row at i t → i + nodes t ≤ length row
recorded-within row at i t is =
    omega (
      arith,
      ap length is,
      length-take (length (nodes_from at t)) (drop i (nodes_of row)),
      length-drop i (nodes_of row),
      length-map row node_of,
      node-count at t,
      nodes-below t,
    )
