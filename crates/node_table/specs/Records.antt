-- The records that a lent table holds.
use Rattle.std.specs.Prelude.{ℕ, ◌≤◌, ◌≡◌, List, map, ◌++◌, length, take, drop}
use Rattle.definitions.specs.Bytes.NodeTable.{NodeRecord}
use Rattle.expression.specs.Filling.{Records}
use Rattle.node_table.specs.declared.NodeRecord.{NodeRecord as Lent}

-- The record that a struct of the table is.
abbrev pub node_of : Lent → NodeRecord
node_of r = record { kind = r.kind; start = r.start; end = r.end }

-- Those of a table.
abbrev pub nodes_of : List Lent → List NodeRecord
nodes_of = map node_of

-- The struct of a record, and one that stands for none.
abbrev pub struct_of : NodeRecord → Lent
struct_of r = record { kind = r.kind; start = r.start; end = r.end }

abbrev pub blank : Lent
blank = record { kind = 0; start = 0; end = 0 }

-- The records of the expression at a place are at the table's start, the others as they were.
abbrev pub FilledIs : List ℕ → (root count : ℕ) → (before after : List NodeRecord) → Type 0
FilledIs s root count before after =
    (records : List NodeRecord) → Records s root count records → after ≡ records ++ drop count before

-- The records of the expression at a place are the first of a row.
abbrev pub RowHas : List ℕ → (root count : ℕ) → (row : List Lent) → Type 0
RowHas s root count row =
    (count ≤ length row) × ((records : List NodeRecord) → Records s root count records → take count (nodes_of row) ≡ records)
