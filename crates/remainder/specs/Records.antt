-- The records of the columns that stay.
use Rattle.std.specs.Prelude.{ℕ, ◌+◌, ◌*◌, ◌≤◌, ◌<◌, ◌≡◌, Bool, true, List, [], ◌∷◌, ◌++◌, length, get_or, eqb}
use Rattle.definitions.specs.Words.Basics.{big_endian, any, keep}
use Rattle.definitions.specs.Words.Expression.{Record}
use Rattle.definitions.specs.Bytes.Encode.{records_bytes}
use Rattle.definitions.specs.Words.References.{record_at}
use Rattle.definitions.specs.Filter.Extract.{same_column, new_index}
use Rattle.definitions.specs.Bytes.Good.{All}
use Rattle.byte_writer.specs.Written.{WroteAt}
use Rattle.plan_writer.specs.Tables.{Entries, Table}

-- A record stays if it equals, in side and child index, one of these columns.
abbrev pub stays : List Record → (columns : List ℕ) → Record → Bool
stays records columns r = any (λ index. same_column (record_at records index) r) columns

-- The flags mark exactly these columns.
pub record Flags (columns : List ℕ) (flags : List ℕ) (count : ℕ) : Type 0 where
  pub held : All (λ index. (index < count) × (get_or flags index 0 ≡ 1)) columns
  pub only : (index : ℕ) → index < count → get_or flags index 0 ≡ 1 → any (λ column. eqb column index) columns ≡ true

-- The records at a place, and the columns that the flags mark; what is claimed of them.
pub record MarkedBy (s : List ℕ) (rec count : ℕ) (flags : List ℕ) (records : List Record) (columns : List ℕ) : Type 0 where
  pub entries : Entries s rec count records
  pub flagged : Flags columns flags count

abbrev pub OfMarked : (s : List ℕ) (rec count : ℕ) (flags : List ℕ) → (List Record → List ℕ → Type 0) → Type 0
OfMarked s rec count flags P = (records : List Record) (columns : List ℕ) → MarkedBy s rec count flags records columns → P records columns

-- Whether the record j stays.
abbrev pub Referenced : (s : List ℕ) (rec count : ℕ) (flags : List ℕ) (j : ℕ) → Bool → Type 0
Referenced s rec count flags j answer = OfMarked s rec count flags (λ records columns. answer ≡ stays records columns (record_at records j))

-- The record j if it stays, and room for it after those kept before it.
abbrev pub kept_one : List Record → (columns : List ℕ) → (j : ℕ) → List Record
kept_one records columns j = keep (stays records columns) (record_at records j ∷ [])

pub record OneFits (s : List ℕ) (rec count : ℕ) (flags : List ℕ) (j kept : ℕ) (out : List ℕ) : Type 0 where
  pub records : List Record
  pub columns : List ℕ
  pub is : MarkedBy s rec count flags records columns
  pub below : j < count
  pub room : 5 * kept + length (records_bytes (kept_one records columns j)) ≤ length out

-- It was written there; the answer is how many are kept now.
abbrev pub OneKept : (s : List ℕ) (rec count : ℕ) (flags : List ℕ) (j kept : ℕ) (before after : List ℕ) → ℕ → Type 0
OneKept s rec count flags j kept before after r =
    OfMarked s rec count flags (λ records columns. WroteAt (5 * kept) (records_bytes (kept_one records columns j)) before after (5 * r))

-- All that stay, and room for them after `extra` bytes.
abbrev pub kept_all : List Record → (columns : List ℕ) → List Record
kept_all records columns = keep (stays records columns) records

pub record AllFit (s : List ℕ) (rec count : ℕ) (flags : List ℕ) (extra : ℕ) (out : List ℕ) : Type 0 where
  pub records : List Record
  pub columns : List ℕ
  pub is : MarkedBy s rec count flags records columns
  pub few : count ≤ 256
  pub room : extra + length (records_bytes (kept_all records columns)) ≤ length out

-- There is a new index and a key for each of so many columns.
pub record RowsFit (count : ℕ) (to keys : List ℕ) : Type 0 where
  pub numbered : count ≤ length to
  pub keyed : count ≤ length keys

-- Their bytes x were written, and each column's new index is in the table.
pub record AllKept (x before after to : List ℕ) (count : ℕ) (records : List Record) (columns : List ℕ) (r : ℕ) : Type 0 where
  pub out : WroteAt 0 x before after r
  pub table : Table (new_index (stays records columns) records) count to

abbrev pub RecordsKept : (s : List ℕ) (rec count : ℕ) (flags : List ℕ) (before after to : List ℕ) → ℕ → Type 0
RecordsKept s rec count flags before after to r =
    OfMarked s rec count flags
    (λ records columns. AllKept (records_bytes (kept_all records columns)) before after to count records columns (5 * r))

-- The bytes of a frame before its expression.
abbrev pub columns_part : List Record → List ℕ
columns_part records = 1 ∷ (big_endian 2 (length records) ++ records_bytes records)

abbrev pub RecordsPut : (s : List ℕ) (rec count : ℕ) (flags : List ℕ) (before after to : List ℕ) → ℕ → Type 0
RecordsPut s rec count flags before after to r =
    OfMarked s rec count flags
    (λ records columns. AllKept (columns_part (kept_all records columns)) before after to count records columns r)
