-- The records of a table whose first structs are those of a tree.
use mathlib.Core.Path.{◌≡◌, ◌∙◌, ap, ap₂}
use Prim.Native.Nat.{ℕ, ◌<◌}
use native.Mathlib.Omega.{arith}
use mathlib.Core.List.{List, ◌++◌, map-append}
use lib.ListN.{length, take, drop, get_or}
use lib.Seq.{length-take-le}
use Rattle.std.proofs.lemmas.List.{ext_get_or}
pub use Rattle.node_table.specs.Records.{struct_of, blank}
use Rattle.node_table.specs.Records.{nodes_of, node_of, RowHas, FilledIs}
use Rattle.node_table.specs.declared.NodeRecord.{NodeRecord}
use Rattle.node_table.proofs.Filling.{map-take, map-drop}

-- Structs that are these, one by one.
pub same-first : (xs ys : List NodeRecord) → length ys ≡ length xs
    → ((j : ℕ) → j < length xs → get_or ys j blank ≡ get_or xs j blank) → ys ≡ xs
same-first xs ys long each = ext_get_or blank ys xs long (λ j h. each j (omega (arith, long)))

-- A table whose first records became the first of such a row is filled with those of the expression.
pub filled-first : (s : List ℕ) (root count : ℕ) (row table put : List NodeRecord) → RowHas s root count row
    → put ≡ take count row ++ drop (length (take count row)) table → FilledIs s root count (nodes_of table) (nodes_of put)
filled-first s root count row table put has is records so =
    let size : length (take count row) ≡ count = length-take-le count row has.0 in
    ap nodes_of is ∙ map-append node_of (take count row) (drop (length (take count row)) table)
    ∙ ap₂ ◌++◌ (map-take node_of count row ∙ has.1 records so)
    (ap (λ (k : ℕ). nodes_of (drop k table)) size ∙ map-drop node_of count table)
