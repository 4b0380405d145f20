-- Laws of expressions at a place: a node's head, and its children after it.
use Prim.Native.Nat.{ℕ, suc, ◌+◌, ◌-◌, ◌≤◌, ◌<◌}
use native.Mathlib.Omega.{arith}
use mathlib.Core.Path.{◌≡◌, refl, sym, ap, ◌∙◌, subst}
use mathlib.Core.List.{List, [], ◌∷◌, ◌++◌, append_assoc, append-nil}
use lib.ListN.{length, drop, get_or, length-append}
use lib.Seq.{drop-drop, drop-append_seam}
use Rattle.definitions.specs.Words.Basics.{big_endian}
use Rattle.definitions.specs.Words.Expression.{Expr, column, literal, and, binary, call, other, field, Exprs, nil, cons, count}
use Rattle.definitions.specs.Bytes.Encode.{expr_bytes, exprs_bytes}
use Rattle.definitions.specs.Bytes.Decode.{Columns}
use Rattle.definitions.specs.Bytes.Good.{InRange, InRangeAll}
use Rattle.theorems.proofs.Cases.{each}
use Rattle.expression.specs.Places.{Holds, Between}
use Rattle.expression.specs.Nodes.{head_bytes, children_of, kind_of, Stands, Spans, Row, Tree, OfTree, Trees}
use Rattle.expression.proofs.Placed.{fits, byte_at, front, back}

-- ---- a node is its head and its children

pub head-children : (t : Expr) → expr_bytes t ≡ head_bytes t ++ exprs_bytes (children_of t)
unfolding expr_bytes head_bytes children_of
head-children (column i g) = sym (append-nil _)
head-children (literal y v) = sym (append-nil _)
head-children (and l r) = rw (append-nil (expr_bytes r))
head-children (binary o l r) = rw (append-nil (expr_bytes r))
head-children (call name args) = rw (append_assoc name (count args ∷ []) (exprs_bytes args))
head-children (other g cs) = rw (append_assoc (big_endian 2 g) (count cs ∷ []) (exprs_bytes cs))
head-children (field b g) = sym (append-nil _)

pub tree-length : (t : Expr) → length (expr_bytes t) ≡ length (head_bytes t) + length (exprs_bytes (children_of t))
tree-length t = ap length (head-children t) ∙ length-append (head_bytes t) (exprs_bytes (children_of t))

head_first : (t : Expr) → get_or (head_bytes t) 0 0 ≡ kind_of t
unfolding head_bytes kind_of
head_first = each (λ t. get_or (head_bytes t) 0 0 ≡ kind_of t)
    (λ i g. refl) (λ y v. refl) (λ l r. refl) (λ o l r. refl) (λ n ts. refl) (λ g ts. refl) (λ b g. refl)

pub head-some : (t : Expr) → 0 < length (head_bytes t)
unfolding head_bytes
head-some = each (λ t. 0 < length (head_bytes t))
    (λ i g. omega arith) (λ y v. omega arith) (λ l r. omega arith) (λ o l r. omega arith) (λ n ts. omega arith) (λ g ts. omega arith)
    (λ b g. omega arith)

pub some_bytes : (t : Expr) → 0 < length (expr_bytes t)
some_bytes t = omega (arith, tree-length t, head-some t)

pub children-in-range : (c : Columns) (t : Expr) → InRange c t → InRangeAll c (children_of t)
unfolding children_of
children-in-range c (column i g) r = tt
children-in-range c (literal y v) r = tt
children-in-range c (and l k) r = (r.0, (r.1, tt))
children-in-range c (binary o l k) r = (r.2, (r.3, tt))
children-in-range c (call name args) r = r.4
children-in-range c (other g cs) r = r.2
children-in-range c (field b g) r = tt

-- ---- where they stand

module _ {c : Columns} {s : List ℕ} {at : ℕ} where
  split : {t : Expr} → Stands c s at t → Holds s at (head_bytes t ++ exprs_bytes (children_of t))
  split {t} h = subst (Holds s at) (head-children t) h.bytes

  pub head-stands : {t : Expr} → Stands c s at t → Holds s at (head_bytes t)
  head-stands {t} h = front (head_bytes t) (exprs_bytes (children_of t)) (split h)

  pub head-fits : {t : Expr} → Stands c s at t → at + length (head_bytes t) ≤ length s
  head-fits h = fits (head-stands h)

  -- A node has a first byte, its kind.
  pub node-some : {t : Expr} → Stands c s at t → at < length s
  node-some {t} h = omega (arith, head-fits h, head-some t)

  pub kind-is : {t : Expr} → Stands c s at t → kind_of t ≡ get_or s at 0
  kind-is {t} h = sym (ap (λ (p : ℕ). get_or s p 0) (omega arith) ∙ byte_at (head-stands h) 0 (head-some t) ∙ head_first t)

  -- The one law from a node to its children.
  pub children-stand : {t : Expr} → Stands c s at t → (p n : ℕ) → p ≡ at + length (head_bytes t) → n ≡ count (children_of t)
      → Row c s p n (children_of t)
  children-stand {t} h p n e k = record {
    bytes = back (head_bytes t) (exprs_bytes (children_of t)) (split h) p e;
    in_range = children-in-range c t h.in_range;
    counted = sym k;
  }

  -- And from a row to its first and its rest.
  pub first-stands : {n : ℕ} {t : Expr} {ts : Exprs} → Row c s at n (cons t ts) → Stands c s at t
  unfolding expr_bytes
  first-stands {n} {t} {ts} h = record { bytes = front (expr_bytes t) (exprs_bytes ts) h.bytes; in_range = h.in_range.0 }

  pub rest-stands : {n : ℕ} {t : Expr} {ts : Exprs} → Row c s at n (cons t ts) → (p m : ℕ) → p ≡ at + length (expr_bytes t) → suc m ≡ n
      → Row c s p m ts
  unfolding expr_bytes count
  rest-stands {n} {t} {ts} h p m e k = record {
    bytes = back (expr_bytes t) (exprs_bytes ts) h.bytes p e;
    in_range = h.in_range.1;
    counted = omega (arith, h.counted);
  }

  -- What stands after a node or after its head stands further on: why walks end.
  pub after-head : {t : Expr} → Stands c s at t → (p : ℕ) → p ≡ at + length (head_bytes t) → at < p
  after-head {t} h p e = omega (arith, head-some t)

  pub after-node : {t : Expr} → Stands c s at t → (p : ℕ) → p ≡ at + length (expr_bytes t) → at < p
  after-node {t} h p e = omega (arith, some_bytes t)

-- ---- a row by its length

pub no-children : (P : Exprs → Type 0) → P nil → (ts : Exprs) → count ts ≡ 0 → P ts
unfolding count
no-children P f nil e = f
no-children P f (cons t ts) e = absurd (omega arith)

pub some-children : (P : Exprs → Type 0) → ((t : Expr) (ts : Exprs) → P (cons t ts)) → (ts : Exprs) → 0 < count ts → P ts
unfolding count
some-children P f nil e = absurd (omega arith)
some-children P f (cons t ts) e = f t ts

-- At least two, and at least three.
pub two-of : (P : Exprs → Type 0) → ((a b : Expr) (more : Exprs) → P (cons a (cons b more))) → (ts : Exprs) → 2 ≤ count ts → P ts
unfolding count
two-of P f nil h = absurd (omega arith)
two-of P f (cons a nil) h = absurd (omega arith)
two-of P f (cons a (cons b more)) h = f a b more

pub three-of : (P : Exprs → Type 0) → ((a b d : Expr) (more : Exprs) → P (cons a (cons b (cons d more)))) → (ts : Exprs) → 3 ≤ count ts
    → P ts
unfolding count
three-of P f ts h = two-of (λ ts. 3 ≤ count ts → P ts)
    (λ a b more k. some-children (λ more. P (cons a (cons b more))) (λ d more. f a b d more) more (omega arith))
    ts (omega arith) h

-- The first of a row that is not empty, and the others.
module _ {s : List ℕ} {at : ℕ} where
  pub first-there : {n : ℕ} → Trees s at n → (n ≡ 0 → ⊥) → Tree s at
  first-there {n} p some = some-children (λ ts. Row p.0 s at n ts → Tree s at)
      (λ t ts w. (p.0, t, first-stands w)) p.1 (omega (arith, p.2.counted)) p.2

  pub rest-there : {n : ℕ} → Trees s at n → (n ≡ 0 → ⊥) → (q : ℕ) → OfTree s at (λ t. q ≡ at + length (expr_bytes t)) → Trees s q (n - 1)
  rest-there {n} p some q is = some-children (λ ts. Row p.0 s at n ts → Trees s q (n - 1))
      (λ t ts w. (p.0, ts, rest-stands w q (n - 1) (is p.0 t (first-stands w)) (omega arith))) p.1 (omega (arith, p.2.counted))
      p.2

  -- One expression is a row of one.
  pub one-row : {c : Columns} {t : Expr} → Stands c s at t → Row c s at 1 (cons t nil)
  unfolding exprs_bytes count
  one-row {c} {t} h = record {
    bytes = subst (Holds s at) (sym (append-nil (expr_bytes t))) h.bytes;
    in_range = (h.in_range, tt);
    counted = refl;
  }

-- ---- an expression up to its end

pub spans-between : {c : Columns} {s : List ℕ} {at end : ℕ} {t : Expr} → Spans c s at end t → Between s at end (expr_bytes t)
spans-between {c} {s} {at} {end} {t} h =
    let x : List ℕ = expr_bytes t in
    let holds : Holds s at x = h.stands.bytes in
    let rest : drop end s ≡ holds.rest =
    ap (λ (k : ℕ). drop k s) h.ends ∙ sym (drop-drop (length x) at s) ∙ ap (drop (length x)) holds.bytes
    ∙ drop-append_seam x holds.rest in
    record { bytes = holds.bytes ∙ ap (λ (l : List ℕ). x ++ l) (sym rest); ends = h.ends; within = omega (arith, h.ends, fits holds) }
