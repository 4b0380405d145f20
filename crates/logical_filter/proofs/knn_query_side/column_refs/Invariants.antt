-- `column_refs`: with the schemas of the columns that are left all are seen.
use Rattle.definitions.specs.Filter.Names.{bits_of}
use Rattle.definitions.specs.Bytes.Decode.{Columns}
use Rattle.definitions.specs.Words.Expression.{Expr}
use Rattle.expression.specs.Nodes.{Stands}
use Rattle.filter_tree.specs.Trees.{Noded}
use Rattle.filter_tree.specs.Columns.{columns_left}
use Rattle.logical_filter.proofs.QueryWalk.{Joining}
use Rattle.logical_filter.proofs.knn_query_side.column_refs.Given as goal
use Prim.Native.Nat.{ℕ}

abbrev pub invariant-loop-place : goal.invariant-loop-place
invariant-loop-place l =
    (c : Columns) (at : ℕ) (t : Expr) → Stands c l.tree.bytes.now at t → Noded l.tree.nodes.now at l.i t
    → Joining c l.tree.bytes.now (bits_of t) (columns_left l.place-iterator) l.bits
