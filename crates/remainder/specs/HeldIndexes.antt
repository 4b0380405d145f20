-- The indexes that what is left holds, as flags: the records of those stay.
use Rattle.std.specs.Prelude.{ℕ, ◌<◌, ◌≡◌, List, length, get_or, if◌then◌else◌}
use Rattle.definitions.specs.Words.Expression.{Expr}
use Rattle.definitions.specs.Bytes.Decode.{index_below}
use Rattle.definitions.specs.Filter.Extract.{holds}
use Rattle.expression.specs.declared.cuts.Cut.{Cut}
use Rattle.node_table.specs.declared.NodeRecord.{NodeRecord as Lent}
use Rattle.remainder.specs.Around.{SomeLeft, OfLeft}

-- No flag is set.
abbrev pub Unmarked : (flags : List ℕ) → Type 0
Unmarked flags = (index : ℕ) → get_or flags index 0 ≡ 0

-- A flag is 1 where the expression holds its index, else 0.
abbrev pub Marks : Expr → (flags : List ℕ) → Type 0
Marks e flags = (index : ℕ) → index < length flags → get_or flags index 0 ≡ (if holds e index then 1 else 0)

-- An expression stands there with its records, its leaf where the cut says, with a flag for each of its columns; none is set.
abbrev pub Unheld : (s : List ℕ) (nodes : List Lent) → Cut → (flags : List ℕ) → Type 0
Unheld s nodes cut flags = SomeLeft (index_below (length flags)) s nodes cut (λ e. Unmarked flags)

-- The flags are those of what is left of it.
abbrev pub HeldMarked : (s : List ℕ) (nodes : List Lent) → Cut → (before after : List ℕ) → Type 0
HeldMarked s nodes cut before after = OfLeft (index_below (length before)) s nodes cut (λ e. Marks e after)
