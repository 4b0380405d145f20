-- Which definition a load is.
use Rattle.std.specs.Prelude.{ℕ, ◌≡◌, List, ◌++◌, length, drop, Result, Ok, Err}
use Rattle.definitions.specs.Bytes.NodeTable.{NodeRecord}
use Rattle.expression.specs.Filling.{Records}
use Rattle.node_table.specs.Records.{RowHas}
use Rattle.node_table.specs.declared.NodeRecord.{NodeRecord as Lent}
use Rattle.terms.specs.declared.refusals.Refusal.{Refusal}
use Rattle.call_answers.specs.Outcomes.{LoadIs}
use Rattle.call_answers.specs.declared.answers.Loaded.{Loaded}

-- For every table of this length the load is the definition's, the table filled with the records of what stands in the frame at `root`,
-- or as it was.
abbrev pub LoadedIs : (frame before after : List ℕ) → (held : ℕ) → Result Loaded Refusal → Type 0
LoadedIs frame before after held (Ok r) =
    (records : List NodeRecord) × Records frame r.root r.count records
    × ((table : List NodeRecord) → length table ≡ held → LoadIs frame before after table (records ++ drop r.count table) (Ok r.length))
LoadedIs frame before after held (Err why) =
    (table : List NodeRecord) → length table ≡ held → LoadIs frame before after table table (Err why)

-- Those records are the row's first.
abbrev pub LoadedRow : (frame : List ℕ) → Result Loaded Refusal → (row : List Lent) → Type 0
LoadedRow frame (Ok r) row = RowHas frame r.root r.count row
LoadedRow frame (Err why) row = Unit {0}
