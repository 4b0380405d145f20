-- Rows that child indexes are put into. (Ours.)
use Rattle.std.specs.Prelude.{ℕ, ◌+◌, ◌*◌, ◌≤◌, ◌≡◌, List, map, length}
use Rattle.definitions.specs.Words.Limits.{most_bytes, two_bytes}
use Rattle.definitions.specs.Words.Expression.{Side, Expr, Record}
use Rattle.definitions.specs.Bytes.Encode.{expr_bytes}
use Rattle.definitions.specs.Bytes.Decode.{index_below}
use Rattle.expression.specs.Nodes.{Stands}
use Rattle.byte_writer.specs.Written.{WroteAt}
use Rattle.plan_writer.specs.Tables.{Entries}
use Rattle.projection.specs.Spots.{Spot, spot_number, column_spots, record_spots}
use Rattle.projection.specs.declared.spots.Spotted.{Spotted}

-- ---- columns

-- An expression stands there, and the row has room for its columns.
pub record ColumnsFit (s : List ℕ) (at : ℕ) (side : Side) (i : ℕ) (row : List ℕ) : Type 0 where
  pub tree : Expr
  pub stands : Stands (index_below two_bytes) s at tree
  pub short : at + length (expr_bytes tree) ≤ most_bytes
  pub room : i + length (column_spots side at tree) ≤ length row

-- A walk of `size` bytes put these into the row from index i on; where it ended, and the index after them.
pub record SpotsPut (at size i : ℕ) (spots : List Spot) (before after : List ℕ) (r : Spotted) : Type 0 where
  pub ends : r.end ≡ at + size
  pub put : WroteAt i (map spot_number spots) before after r.index

-- What was put of the expression at a place.
abbrev pub ColumnsCollected : (s : List ℕ) (at : ℕ) (side : Side) (i : ℕ) (before after : List ℕ) → Spotted → Type 0
ColumnsCollected s at side i before after r =
    (t : Expr) → Stands (index_below two_bytes) s at t → SpotsPut at (length (expr_bytes t)) i (column_spots side at t) before after r

-- ---- records

-- So many records at a place end within a plan, and the row has room for them.
pub record RecordsFit (rec count i : ℕ) (row : List ℕ) : Type 0 where
  pub short : rec + 5 * count ≤ most_bytes
  pub room : i + count ≤ length row

-- What was put of them.
abbrev pub RecordsCollected : (s : List ℕ) (rec count i : ℕ) (before after : List ℕ) (r : ℕ) → Type 0
RecordsCollected s rec count i before after r =
    (records : List Record) → Entries s rec count records → WroteAt i (map spot_number (record_spots rec records)) before after r
