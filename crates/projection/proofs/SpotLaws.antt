-- Laws of child indexes and their numbers: of a node that is no column, of a record, and how many there can be.
use Prim.Native.Nat.{ℕ, zero, suc, ◌+◌, ◌*◌, ◌≤◌, ◌<◌}
use native.Mathlib.Omega.{arith}
use mathlib.Core.Path.{◌≡◌, refl, sym, ap, ◌∙◌}
use mathlib.Core.List.{List, [], ◌∷◌, ◌++◌, append-nil}
use lib.ListN.{length, get_or, length-append}
use Rattle.definitions.specs.Words.Basics.{big_endian}
use Rattle.definitions.specs.Words.Expression.{Side, left, right, no_side, Expr, column, literal, and, binary, call, other, field, Exprs, nil, cons, Record}
use Rattle.definitions.specs.Bytes.Good.{nodes, nodes_all}
use Rattle.definitions.specs.Bytes.Encode.{side_number, expr_bytes, exprs_bytes}
use Rattle.definitions.specs.Words.References.{record_at}
use Rattle.expression.specs.Nodes.{head_bytes, children_of, kind_of}
use Rattle.projection.specs.Spots.{Spot, column_spots, child_spots, record_spots}

pub side-small : (side : Side) → side_number side < 4
unfolding side_number
side-small left = omega arith
side-small right = omega arith
side-small no_side = omega arith

-- ---- a node

-- A node that is no column has those of its children.
pub no-own-spots : (side : Side) (at : ℕ) (t : Expr) → (kind_of t ≡ 0 → ⊥)
    → column_spots side at t ≡ child_spots side (at + length (head_bytes t)) (children_of t)
unfolding kind_of column_spots child_spots children_of head_bytes big_endian
no-own-spots side at (column i g) n = absurd (n refl)
no-own-spots side at (literal y v) n = refl
no-own-spots side at (and l r) n =
    ap (λ (x : List Spot). column_spots side (at + 2) l ++ x) (sym (append-nil (column_spots side (at + 2 + length (expr_bytes l)) r)))
no-own-spots side at (binary o l r) n =
    ap (λ (x : List Spot). column_spots side (at + 2) l ++ x) (sym (append-nil (column_spots side (at + 2 + length (expr_bytes l)) r)))
no-own-spots side at (call name ts) n = ap (λ (k : ℕ). child_spots side (at + k) ts) (simp length-append (omega arith))
no-own-spots side at (other g ts) n = refl
no-own-spots side at (field b g) n = refl

mutual
  unfolding column_spots child_spots expr_bytes exprs_bytes big_endian

  -- Each has five bytes.
  pub few-columns : (side : Side) (at : ℕ) (t : Expr) → 5 * length (column_spots side at t) ≤ length (expr_bytes t)
  few-columns side at (column i g) = omega arith
  few-columns side at (literal y v) = omega arith
  few-columns side at (and l r) =
      simp length-append (omega (arith, few-columns side (at + 2) l, few-columns side (at + 2 + length (expr_bytes l)) r))
  few-columns side at (binary o l r) =
      simp length-append (omega (arith, few-columns side (at + 2) l, few-columns side (at + 2 + length (expr_bytes l)) r))
  few-columns side at (call name ts) = simp length-append (omega (arith, few-children side (at + (3 + length name)) ts))
  few-columns side at (other g ts) = simp length-append (omega (arith, few-children side (at + 4) ts))
  few-columns side at (field b g) = omega arith

  pub few-children : (side : Side) (at : ℕ) (ts : Exprs) → 5 * length (child_spots side at ts) ≤ length (exprs_bytes ts)
  few-children side at nil = omega arith
  few-children side at (cons t ts) =
      simp length-append (omega (arith, few-columns side at t, few-children side (at + length (expr_bytes t)) ts))

-- Each is a node.
mutual
  unfolding column_spots child_spots nodes

  pub nodes-enough : (side : Side) (at : ℕ) (t : Expr) → length (column_spots side at t) ≤ nodes t
  nodes-enough side at (column i g) = omega arith
  nodes-enough side at (literal y v) = omega arith
  nodes-enough side at (and l r) =
      simp length-append (omega (arith, nodes-enough side (at + 2) l, nodes-enough side (at + 2 + length (expr_bytes l)) r))
  nodes-enough side at (binary o l r) =
      simp length-append (omega (arith, nodes-enough side (at + 2) l, nodes-enough side (at + 2 + length (expr_bytes l)) r))
  nodes-enough side at (call name ts) = omega (arith, nodes-enough-all side (at + (3 + length name)) ts)
  nodes-enough side at (other g ts) = omega (arith, nodes-enough-all side (at + 4) ts)
  nodes-enough side at (field b g) = omega arith

  nodes-enough-all : (side : Side) (at : ℕ) (ts : Exprs) → length (child_spots side at ts) ≤ nodes_all ts
  nodes-enough-all side at nil = omega arith
  nodes-enough-all side at (cons t ts) =
      simp length-append (omega (arith, nodes-enough side at t, nodes-enough-all side (at + length (expr_bytes t)) ts))

-- ---- records

pub record-spots : (at : ℕ) (rs : List Record) → length (record_spots at rs) ≡ length rs
unfolding record_spots
record-spots at [] = refl
record-spots at (r ∷ rs) = ap suc (record-spots (at + 5) rs)

-- The one of a record.
abbrev pub spot_of : (at : ℕ) → Record → Spot
spot_of at r = record { side = r.side; at = at + 1; child = r.child }

pub record-spot : (at : ℕ) (rs : List Record) (k : ℕ) → k < length rs → (d : Spot)
    → get_or (record_spots at rs) k d ≡ spot_of (at + 5 * k) (record_at rs k)
unfolding record_spots record_at
record-spot at [] k b d = absurd (omega arith)
record-spot at (r ∷ rs) zero b d = ap (λ (n : ℕ). spot_of n r) (omega arith)
record-spot at (r ∷ rs) (suc k) b d =
    record-spot (at + 5) rs k (omega arith) d ∙ ap (λ (n : ℕ). spot_of n (record_at rs k)) (omega arith)
