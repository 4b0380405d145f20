-- Expressions that stand in the bytes, by their indexes: two in a row, and the children of what was found of a node.
use Prim.Native.Nat.{ℕ, ◌+◌, ◌-◌}
use native.Mathlib.Omega.{arith}
use mathlib.Core.Path.{◌≡◌, refl, sym, ap, subst}
use mathlib.Core.List.{List}
use lib.ListN.{length}
use Rattle.definitions.specs.Words.Expression.{Expr, Exprs, nil, cons, count}
use Rattle.definitions.specs.Bytes.Encode.{expr_bytes}
use Rattle.definitions.specs.Bytes.Decode.{Columns}
use Rattle.definitions.specs.Bytes.Good.{nodes as nodes_in, nodes_all}
use Rattle.expression.specs.Nodes.{head_bytes, children_of, Stands, Spans, Row}
use Rattle.expression.specs.Leaves.{Both, CallIs, OfCall}
use Rattle.expression.specs.declared.leaves.Called.{Called}
use Rattle.expression.proofs.OneTree.{of-trees}
use Rattle.expression.proofs.Standing.{children-stand, first-stands, rest-stands}
use Rattle.node_table.specs.declared.NodeRecord.{NodeRecord as Lent}
use Rattle.filter_tree.specs.Trees.{Noded, NodedAll, RowUpTo, Node, OfNode, Indexed}
use Rattle.filter_tree.proofs.NodeLaws.{nodes-below}
use Rattle.filter_tree.proofs.Scans.{noded-children}
use Rattle.filter_tree.proofs.Children.{noded-first, noded-rest}

-- ---- where a node stands

-- It stands where its record says.
pub starts-there : {c : Columns} {s : List ℕ} {nodes : List Lent} {at i p : ℕ} {t : Expr} → Stands c s at t → Noded nodes at i t
    → OfNode nodes i (λ at t. p ≡ at) → Stands c s p t
starts-there {c} {s} {at = at} {t = t} stands h start = subst (λ (q : ℕ). Stands c s q t) (sym (start at t h)) stands

pub starts-noded : {nodes : List Lent} {at i p : ℕ} {t : Expr} → Noded nodes at i t → OfNode nodes i (λ at t. p ≡ at) → Noded nodes p i t
starts-noded {nodes} {at} {i} {t = t} h start = subst (λ (q : ℕ). Noded nodes q i t) (sym (start at t h)) h

module _ {c : Columns} {s : List ℕ} {nodes : List Lent} where
  pub index-node : {i : ℕ} {t : Expr} → Indexed c s nodes i t → Node nodes i
  index-node {t = t} h = (h.at, t, h.noded)

  -- Where it stands, and up to where.
  pub index-spans : {i : ℕ} {t : Expr} → Indexed c s nodes i t → {p q : ℕ} → OfNode nodes i (λ at t. p ≡ at)
      → OfNode nodes i (λ at t. q ≡ at + length (expr_bytes t)) → Spans c s p q t
  index-spans {t = t} h {p} {q} start end = record {
    stands = subst (λ (x : ℕ). Stands c s x t) (sym (start h.at t h.noded)) h.stands;
    ends = omega (arith, start h.at t h.noded, end h.at t h.noded);
  }

  -- Two in a row, and the rest of it.
  module _ {at n i : ℕ} {a b : Expr} {more : Exprs} (row : Row c s at n (cons a (cons b more)))
      (h : NodedAll nodes at i (cons a (cons b more))) where
    pub index-first : Indexed c s nodes i a
    index-first = record { at = at; stands = first-stands row; noded = noded-first h }

    module _ {k : ℕ} (after : OfNode nodes i (λ at t. k ≡ i + nodes_in t)) where
      follows : k ≡ i + nodes_in a
      follows = after at a (noded-first h)

      pub noded-more : NodedAll nodes (at + length (expr_bytes a)) k (cons b more)
      noded-more = noded-rest h _ k refl follows

      pub row-more : Row c s (at + length (expr_bytes a)) (n - 1) (cons b more)
      unfolding count
      row-more = rest-stands row _ (n - 1) refl (omega (arith, row.counted))

      pub index-second : Indexed c s nodes k b
      index-second = record { at = at + length (expr_bytes a); stands = first-stands row-more; noded = noded-first noded-more }

-- ---- the children of a node

-- Those of one that has an index.
pub index-children : {c : Columns} {s : List ℕ} {nodes : List Lent} {i : ℕ} {t : Expr} (h : Indexed c s nodes i t)
    → Row c s (h.at + length (head_bytes t)) (count (children_of t)) (children_of t)
    × NodedAll nodes (h.at + length (head_bytes t)) (i + 1) (children_of t)
index-children h = (children-stand h.stands _ _ refl refl, noded-children h.noded _ _ refl refl)

module _ {c : Columns} {s : List ℕ} {nodes : List Lent} {at i : ℕ} {t : Expr} (h : Noded nodes at i t) where
  -- Both of an operator that was found.
  pub both-noded : {build : Expr → Expr → Expr} {first : ℕ} (b : Both build c s at first t)
      → NodedAll nodes first (i + 1) (cons b.l (cons b.r nil))
  both-noded {first = first} b = subst (NodedAll nodes first (i + 1)) b.children (noded-children h first (i + 1) b.begins refl)

  module _ {build : Expr → Expr → Expr} {first past : ℕ} (b : Both build c s at first t) (ends : past ≡ i + nodes_in t) where
    -- Where the node's records end, theirs do, and those of the second one.
    pub both-up-to : RowUpTo nodes (i + 1) past
    both-up-to = (first, b.l, cons b.r nil, both-noded b, omega (arith, ends, nodes-below t, ap nodes_all b.children))

    pub second-up-to : {k : ℕ} → k ≡ i + 1 + nodes_in b.l → past ≡ k + nodes_in b.r
    unfolding nodes_all
    second-up-to e = omega (arith, ends, e, nodes-below t, ap nodes_all b.children)

  -- The arguments of a function that was found.
  pub arguments-noded : {k : Called} (b : CallIs c s at k t) → NodedAll nodes k.first (i + 1) b.arguments
  unfolding children_of
  arguments-noded {k} b = subst (NodedAll nodes k.first (i + 1)) (ap children_of b.is) (noded-children h k.first (i + 1) b.begins refl)

  pub call-noded : {k : Called} → CallIs c s at k t → OfCall s k (λ d name arguments. NodedAll nodes k.first (i + 1) arguments)
  call-noded {k} b d name arguments stands =
      of-trees (NodedAll nodes k.first (i + 1)) b.stands.row (arguments-noded b) d arguments stands.row
