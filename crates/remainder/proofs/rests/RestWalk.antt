-- What the calls of `put_part` require, by the And that was found.
use Rattle.std.specs.Prelude.{Option, Some, None, IfSome}
use Prim.Native.Nat.{ℕ, ◌+◌, ◌≤◌}
use native.Mathlib.Omega.{arith}
use mathlib.Core.Path.{◌≡◌, refl, ap, ◌∙◌, subst⁻¹}
use mathlib.Core.List.{List, [], ◌∷◌}
use lib.ListN.{length, length-append}
use types.Run.{OneOf, miss}
use denote.Enum.Declared.{tag_of}
use Rattle.definitions.specs.Words.Expression.{Expr, and}
use Rattle.definitions.specs.Bytes.Encode.{expr_bytes}
use Rattle.definitions.specs.Words.Leaves.{leaves}
use Rattle.definitions.specs.Bytes.Decode.{Columns}
use Rattle.definitions.specs.Bytes.Good.{nodes as nodes_in}
use Rattle.expression.specs.Nodes.{head_bytes, Stands}
use Rattle.expression.specs.Leaves.{NodeIs, Both}
use Rattle.expression.specs.declared.leaves.Node.{Node}
use Rattle.expression.specs.declared.leaves.Node.TheVariants.{And, Binary, Call, Plain}
use Rattle.expression.specs.contracts.leaves.Node.{the_type}
use Rattle.expression.proofs.AndLeaves.{plain-leaf}
use Rattle.expression.proofs.Standing.{first-stands, rest-stands}
use Rattle.node_table.specs.declared.NodeRecord.{NodeRecord as Lent}
use Rattle.filter_tree.specs.Trees.{Noded}
use Rattle.filter_tree.proofs.Children.{noded-first, noded-rest}
use Rattle.filter_tree.proofs.Indexes.{both-noded}
use Rattle.remainder.specs.Rests.{RestFits, RestPut}
use Rattle.remainder.specs.declared.rests.Stays.{Stays}

-- What is known of an index where there is one.
pub known : {P Q : ℕ → Type 0} (o : Option ℕ) → ((p : ℕ) → P p → Q p) → IfSome o P → IfSome o Q
known (Some p) f h = f p h
known None f h = h

-- Any node but And is an AND-leaf.
pub lone-leaf : (c : Columns) (s : List ℕ) (at : ℕ) (t : Expr) (r : Node) → OneOf (1 ∷ 2 ∷ 3 ∷ []) (tag_of the_type r) → NodeIs c s at r t
    → leaves t ≡ t ∷ []
unfolding leaves
lone-leaf c s at t (And first) o b = absurd (miss (1 ∷ 2 ∷ 3 ∷ []) 0 tt o)
lone-leaf c s at t (Binary operator first) o b = subst⁻¹ (λ (t : Expr). leaves t ≡ t ∷ []) b.is refl
lone-leaf c s at t (Call k) o b = subst⁻¹ (λ (t : Expr). leaves t ≡ t ∷ []) b.is refl
lone-leaf c s at t (Plain head) o b = plain-leaf b.0

module _ {c : Columns} {s : List ℕ} {at left : ℕ} {t : Expr} (b : Both and c s at left t) where
  -- Its bytes, leaves and sides.
  pub and-size : length (expr_bytes t) ≡ 2 + length (expr_bytes b.l) + length (expr_bytes b.r)
  unfolding expr_bytes
  and-size = ap (λ (u : Expr). length (expr_bytes u)) b.is ∙ simp length-append (omega arith)

  pub and-leaves : length (leaves t) ≡ length (leaves b.l) + length (leaves b.r)
  unfolding leaves
  and-leaves = ap (λ (u : Expr). length (leaves u)) b.is ∙ length-append (leaves b.l) (leaves b.r)

  pub left_after : left ≡ at + 2
  unfolding head_bytes
  left_after = b.begins ∙ ap (λ (u : Expr). at + length (head_bytes u)) b.is

  pub left-at : {nodes : List Lent} {i : ℕ} → Noded nodes at i t → Noded nodes left (i + 1) b.l
  left-at h = noded-first (both-noded h b)

  pub right-noded : {nodes : List Lent} {i : ℕ} → Noded nodes at i t → (p k : ℕ) → p ≡ left + length (expr_bytes b.l)
      → k ≡ i + 1 + nodes_in b.l → Noded nodes p k b.r
  right-noded h p k e f = noded-first (noded-rest (both-noded h b) p k e f)

  pub right-stands : (p : ℕ) → p ≡ left + length (expr_bytes b.l) → Stands c s p b.r
  right-stands p e = first-stands (rest-stands b.row p 1 e refl)

module _ {s : List ℕ} {at end after : ℕ} {gone out : List ℕ} (f : RestFits s at end after gone out) {left : ℕ}
    (b : Both and f.columns s at left f.tree) where
  pub right-fits : (p : ℕ) → p ≡ left + length (expr_bytes b.l) → RestFits s p end after gone out
  right-fits p e = record {
    columns = f.columns;
    tree = b.r;
    stands = right-stands b p e;
    room = omega (arith, f.room, and-size b);
    within = f.within;
    counted = omega (arith, f.counted, and-leaves b);
    flagged = f.flagged;
  }

  module _ {turned : List ℕ} {r : Stays} (put : RestPut end after gone out turned r b.r) (same : length turned ≡ length out) where
    pub left-fits : RestFits s left r.start r.leaf gone turned
    left-fits = record {
      columns = f.columns;
      tree = b.l;
      stands = first-stands b.row;
      room = omega (arith, f.room, and-size b, put.low);
      within = omega (arith, f.within, put.high, same);
      counted = omega (arith, f.counted, and-leaves b, put.counted);
      flagged = omega (arith, f.flagged, put.counted);
    }

    pub head-fits : {sides : List ℕ} {a : Stays} → RestPut r.start r.leaf gone turned sides a b.l → length sides ≡ length turned
        → (2 ≤ a.start) × (a.start ≤ length sides)
    head-fits one alike =
        (omega (arith, f.room, and-size b, put.low, one.low), omega (arith, f.within, put.high, same, one.high, alike))
