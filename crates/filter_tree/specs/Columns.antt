-- The columns that an iterator has left.
use Rattle.std.specs.Prelude.{ℕ, ◌+◌, ◌≡◌, List, map, drop, get_or}
use Rattle.definitions.specs.Words.Expression.{Expr, column, field}
use Rattle.definitions.specs.Words.References.{columns_of}
use Rattle.definitions.specs.Bytes.Decode.{Columns as Bounds}
use Rattle.definitions.specs.Bytes.Good.{All}
use Rattle.definitions.specs.Bytes.NodeTable.{nodes_from}
use Rattle.definitions.specs.Filter.Names.{bits_of}
use Rattle.expression.specs.Places.{short_at}
use Rattle.expression.specs.Nodes.{Stands}
use Rattle.node_table.specs.declared.NodeRecord.{NodeRecord as Lent}
use Rattle.node_table.specs.Records.{nodes_of}
use Rattle.filter_tree.specs.Trees.{Noded, below, places_of}
use Rattle.filter_tree.specs.declared.tree.Columns.{Columns}

-- Their places.
abbrev pub columns_left : Columns → List ℕ
columns_left s = places_of s.kind (below s.end (drop s.next (nodes_of s.nodes.now)))

-- They are the columns of the expression at a place, each a column that stands there.
pub record ColumnsAre (c : Bounds) (s : List ℕ) (left : List ℕ) (at : ℕ) (t : Expr) : Type 0 where
  pub places : left ≡ places_of 0 (nodes_from at t)
  pub indexes : map (λ p. short_at s (p + 1)) left ≡ columns_of t
  pub each : All (λ p. (index : ℕ) × (tag : ℕ) × Stands c s p (column index tag)) left

-- For each expression whose records have this index.
abbrev pub OfColumns : (s : List ℕ) (nodes : List Lent) (i : ℕ) → List ℕ → Type 0
OfColumns s nodes i left = (c : Bounds) (at : ℕ) (t : Expr) → Stands c s at t → Noded nodes at i t → ColumnsAre c s left at t

-- ---- the fields of a logical filter

-- The bits of the field at a place, and that one stands there.
abbrev pub bits_in : (s : List ℕ) (at : ℕ) → ℕ
bits_in s at = get_or s (at + 1) 0

abbrev pub FieldAt : (c : Bounds) (s : List ℕ) (at : ℕ) → Type 0
FieldAt c s at = (bits tag : ℕ) × Stands c s at (field bits tag)

-- They are fields with these bits.
pub record FieldsAre (c : Bounds) (s : List ℕ) (left bits : List ℕ) : Type 0 where
  pub read : map (bits_in s) left ≡ bits
  pub each : All (FieldAt c s) left

-- For each expression whose records have this index, they are its own.
abbrev pub OfFields : (s : List ℕ) (nodes : List Lent) (i : ℕ) → List ℕ → Type 0
OfFields s nodes i left = (c : Bounds) (at : ℕ) (t : Expr) → Stands c s at t → Noded nodes at i t → FieldsAre c s left (bits_of t)
