-- What is left to ask of the AND-leaves of an expression.
use Rattle.std.specs.Prelude.{ℕ, ◌≡◌, List, drop}
use Rattle.definitions.specs.Words.Basics.{all}
use Rattle.definitions.specs.Words.Leaves.{leaves, leaf_arity, arity}
use Rattle.definitions.specs.Bytes.Decode.{Columns}
use Rattle.expression.specs.Nodes.{Stands}
use Rattle.node_table.specs.declared.NodeRecord.{NodeRecord as Lent}
use Rattle.filter_tree.specs.Trees.{Noded}
use Rattle.filter_tree.specs.Spines.{Onward}
use Rattle.definitions.specs.Words.Expression.{Expr}

-- Some leaves were passed, and all have their arguments exactly if those that are left do.
pub record Asked (c : Columns) (s : List ℕ) (nodes : List Lent) (i : ℕ) (left : List ℕ) (t : Expr) : Type 0 where
  pub position : ℕ
  pub onward : Onward c s nodes i left position t
  pub rest : arity t ≡ all leaf_arity (drop position (leaves t))

abbrev pub OfAsked : (s : List ℕ) (nodes : List Lent) (i : ℕ) (left : List ℕ) → Type 0
OfAsked s nodes i left = (c : Columns) (at : ℕ) (t : Expr) → Stands c s at t → Noded nodes at i t → Asked c s nodes i left t
