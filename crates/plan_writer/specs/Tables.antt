-- Tables of column indexes, and the records that they are made from.
use Rattle.std.specs.Prelude.{ℕ, ◌+◌, ◌<◌, ◌≡◌, List, length, get_or}
use Rattle.definitions.specs.Words.Limits.{two_bytes}
use Rattle.definitions.specs.Words.Expression.{Record}
use Rattle.definitions.specs.Bytes.Encode.{record_bytes, records_bytes}
use Rattle.definitions.specs.Words.References.{record_at}
use Rattle.definitions.specs.Bytes.Good.{RecordsInRange}
use Rattle.expression.specs.Places.{Holds}

-- A table has the new index of each of `count` columns.
pub record Table (new : ℕ → ℕ) (count : ℕ) (to : List ℕ) : Type 0 where
  pub entry : (index : ℕ) → index < count → get_or to index 0 ≡ new index

-- A record stands at a place, its child index in its range.
pub record Entry (s : List ℕ) (at : ℕ) (r : Record) : Type 0 where
  pub bytes : Holds s at (record_bytes r)
  pub short : r.child < two_bytes

-- `count` records stand at a place, their fields in their ranges.
pub record Entries (s : List ℕ) (rec count : ℕ) (records : List Record) : Type 0 where
  pub bytes : Holds s rec (records_bytes records)
  pub in_range : RecordsInRange records
  pub counted : length records ≡ count

-- What is claimed of such records.
abbrev pub OfRecords : (s : List ℕ) (rec count : ℕ) → (List Record → Type 0) → Type 0
OfRecords s rec count P = (records : List Record) → Entries s rec count records → P records

-- The index of a column in its child.
abbrev pub child_of : List Record → ℕ → ℕ
child_of records index = (record_at records index).child

abbrev pub ChildTable : (s : List ℕ) (rec count : ℕ) (to : List ℕ) → Type 0
ChildTable s rec count to = OfRecords s rec count (λ records. Table (child_of records) count to)

-- The index of each column raised by a count.
abbrev pub RaisedTable : (by count : ℕ) (to : List ℕ) → Type 0
RaisedTable by count to = Table (λ index. by + index) count to
