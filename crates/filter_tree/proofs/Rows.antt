-- How many records stand at a place; a row into which the records of the expression at a place were put has those of whatever stands there.
use Prim.Native.Nat.{ℕ, ◌≤◌}
use native.Mathlib.Omega.{arith}
use mathlib.Core.Path.{◌≡◌, sym, ap, ◌∙◌}
use mathlib.Core.List.{List}
use lib.ListN.{length, take}
use Rattle.definitions.specs.Words.Expression.{Expr}
use Rattle.definitions.specs.Bytes.Decode.{Columns}
use Rattle.definitions.specs.Bytes.Good.{nodes}
use Rattle.definitions.specs.Bytes.NodeTable.{NodeRecord, nodes_from}
use Rattle.theorems.proofs.NodeTables.{node-count}
use Rattle.expression.specs.Nodes.{Stands}
use Rattle.expression.specs.Filling.{Records, nothing, filled}
use Rattle.expression.proofs.OneTree.{of_tree}
use Rattle.node_table.specs.Records.{nodes_of, RowHas}
use Rattle.node_table.specs.declared.NodeRecord.{NodeRecord as Lent}
use Rattle.filter_tree.proofs.NodeLaws.{nodes-below}
use Rattle.filter_tree.specs.Trees.{Recorded}

pub records-count : {s : List ℕ} {root count : ℕ} {records : List NodeRecord} → Records s root count records → length records ≡ count
records-count (nothing e) = sym e
records-count {root = root} (filled {t = t} stands size few short) = node-count root t ∙ sym size

module _ {c : Columns} {s : List ℕ} {root count : ℕ} {t : Expr} (row : List Lent) (stands : Stands c s root t) (size : count ≡ nodes t)
    (room : count ≤ length row) (recorded : Recorded row root 0 t) where
  first : take count (nodes_of row) ≡ nodes_from root t
  first = ap (λ (k : ℕ). take k (nodes_of row)) (omega (arith, size, node-count root t)) ∙ recorded

  all-has : (records : List NodeRecord) → Records s root count records → take count (nodes_of row) ≡ records
  all-has records (nothing e) = absurd (omega (arith, size, nodes-below t))
  all-has records (filled {c = d} {t = u} its same few short) =
      of_tree (λ u. take count (nodes_of row) ≡ nodes_from root u) stands first d u its

  pub row-has : RowHas s root count row
  row-has = (room, all-has)
