-- What three visitors do: one fills a row, one holds the nodes to a lent table, one does nothing.
use Rattle.std.specs.Prelude.{ℕ, ◌+◌, ◌<◌, ◌≤◌, ◌≡◌, List, map, ◌++◌, length, take, drop, set, get_or}
use Rattle.definitions.specs.Words.Expression.{Expr}
use Rattle.definitions.specs.Bytes.Encode.{expr_bytes}
use Rattle.definitions.specs.Bytes.Good.{nodes}
use Rattle.definitions.specs.Bytes.NodeTable.{nodes_from}
use Rattle.node_table.specs.Records.{struct_of, blank}
use Rattle.node_table.specs.declared.NodeRecord.{NodeRecord as Lent}
use Rattle.filter_tree.specs.Trees.{Recorded}

-- ---- a row

-- A node's kind and start were put at its index, if the row is so long; then its end.
abbrev pub OpenedAt : List Lent → (i kind at : ℕ) → List Lent → Type 0
OpenedAt row i kind at after =
    (length after ≡ length row) × (i < length row → after ≡ set row i (record (get_or row i blank) { kind = kind; start = at }))

abbrev pub ClosedAt : List Lent → (i end : ℕ) → List Lent → Type 0
ClosedAt row i end after =
    (length after ≡ length row) × (i < length row → after ≡ set row i (record (get_or row i blank) { end = end }))

-- The records of an expression were put into the row from index i up to another, if it is so long.
abbrev pub RecordsPut : (at i : ℕ) → (row after : List Lent) → (end index : ℕ) → Expr → Type 0
RecordsPut at i row after end index t =
    (length after ≡ length row)
    × (index ≤ length row → after ≡ take i row ++ (map struct_of (nodes_from at t) ++ drop index row))

-- ---- a table

-- The record of this index has the kind and the start; the end.
abbrev pub StartsThere : List Lent → (i kind at : ℕ) → Type 0
StartsThere table i kind at =
    (i < length table) × ((get_or table i blank).kind ≡ kind) × ((get_or table i blank).start ≡ at)

abbrev pub EndsThere : List Lent → (i end : ℕ) → Type 0
EndsThere table i end = (i < length table) × ((get_or table i blank).end ≡ end)

-- The table has the records of an expression from index i on; where it ends, and the index after them.
abbrev pub RecordsAre : (at i : ℕ) → List Lent → (end index : ℕ) → Expr → Type 0
RecordsAre at i table end index t =
    (end ≡ at + length (expr_bytes t)) × (index ≡ i + nodes t) × Recorded table at i t
