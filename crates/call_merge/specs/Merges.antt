-- Which definition a merge is.
use Rattle.std.specs.Prelude.{ℕ, ◌≡◌, List, ◌++◌, length, drop, Result, Ok, Err}
use Rattle.definitions.specs.Bytes.NodeTable.{NodeRecord}
use Rattle.definitions.specs.Calls.Merge.{merge}
use Rattle.expression.specs.Filling.{Records}
use Rattle.terms.specs.declared.refusals.Refusal.{Refusal}
use Rattle.call_answers.specs.Outcomes.{MergeIs}
use Rattle.call_answers.specs.declared.answers.Loaded.{Loaded}

-- For every table of this length the merge is the definition's, the table filled with the records of what stands in the plan buffer, as it
-- is left, at `root`, or as it was.
abbrev pub MergedIs : (frame : List ℕ) → (n : ℕ) → (before scratch after kept : List ℕ) → (held : ℕ) → Result Loaded Refusal → Type 0
MergedIs frame n before scratch after kept held (Ok r) =
    (records : List NodeRecord) × Records after r.root r.count records
    × ((table : List NodeRecord) → length table ≡ held
    → MergeIs (merge frame n before scratch table) n after kept (records ++ drop r.count table) (Ok r.length))
MergedIs frame n before scratch after kept held (Err why) =
    (table : List NodeRecord) → length table ≡ held → MergeIs (merge frame n before scratch table) n after kept table (Err why)
