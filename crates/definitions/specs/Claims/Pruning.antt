-- Request 3 of document 02: what is claimed of pruning by held indexes; crate `theorems` proves it.
use Rattle.std.specs.Prelude.{ℕ, ◌≡◌, Bool, true, List}
use Rattle.definitions.specs.Words.Basics.{keep}
use Rattle.definitions.specs.Words.Expression.{Expr, Record}
use Rattle.definitions.specs.Words.References.{record_at, map_columns}
use Rattle.definitions.specs.Filter.Extract.{same_column, new_index, prune, holds}

-- Some index is held whose record equals this one in side and child index.
abbrev pub EqualsHeld : List Record → Expr → Record → Type 0
EqualsHeld records e r = (index : ℕ) × (holds e index ≡ true) × (same_column (record_at records index) r ≡ true)

-- `prune` keeps the records that pass a test, which a record passes exactly when it equals one of a held index in side and child index;
-- a column's new index is the number of those that passed before it.
abbrev pub KeptByHeldIndexes : Type 0
KeptByHeldIndexes =
    (records : List Record) (e : Expr)
    → (test : Record → Bool) × ((r : Record) → (test r ≡ true → EqualsHeld records e r) × (EqualsHeld records e r → test r ≡ true))
    × ((prune records e).records ≡ keep test records)
    × ((prune records e).expr ≡ map_columns (new_index test records) e)
