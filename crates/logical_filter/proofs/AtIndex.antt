-- What is found where the node of an index starts is found of that node.
use Prim.Native.Nat.{ℕ}
use mathlib.Core.Path.{◌≡◌, sym, subst}
use mathlib.Core.List.{List}
use Rattle.definitions.specs.Words.Expression.{Expr}
use Rattle.definitions.specs.Bytes.Decode.{Columns}
use Rattle.expression.specs.Nodes.{Stands, Tree, OfTreeIn}
use Rattle.node_table.specs.declared.NodeRecord.{NodeRecord as Lent}
use Rattle.filter_tree.specs.Trees.{Noded, OfNode, TreeNode}

module _ {s : List ℕ} {xs : List Lent} {i p : ℕ} (starts : OfNode xs i (λ at t. p ≡ at)) where
  pub start-there : TreeNode s xs i → Tree s p
  start-there r = (r.0, r.2, subst (λ (q : ℕ). Stands r.0 s q r.2) (sym (starts r.1 r.2 r.4)) r.3)

  pub start-found : (P : ℕ → Columns → Expr → Type 0) → OfTreeIn s p (P p) → (c : Columns) (at : ℕ) (t : Expr) → Stands c s at t
      → Noded xs at i t → P at c t
  start-found P is c at t stands h = subst (λ (q : ℕ). OfTreeIn s q (P q)) (starts at t h) is c t stands
