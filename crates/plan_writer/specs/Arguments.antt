-- What becomes of an argument that is written.
use Rattle.std.specs.Prelude.{ℕ, List, length, get_or, Option, Some, None}
use Rattle.std.specs.Borrow.{Bor}
use Rattle.definitions.specs.Words.Expression.{Side, left, right, no_side, Expr}
use Rattle.definitions.specs.Bytes.Encode.{expr_bytes}
use Rattle.definitions.specs.Words.References.{map_columns}
use Rattle.terms.specs.Sides.{join_side}
use Rattle.sedona_query_planner.specs.Predicates.{Change, unchanged, ArgumentAt}
use Rattle.byte_writer.specs.Writing.{Both, joined}
use Rattle.plan_writer.specs.declared.arguments.Argument.{Argument}

-- A table gives each column of an argument its new index; one of side none is copied.
abbrev pub by_table : (to : List ℕ) → Side → Expr → Expr
by_table to left t = map_columns (λ index. get_or to index 0) t
by_table to right t = map_columns (λ index. get_or to index 0) t
by_table to no_side t = t

-- The change by such a table.
abbrev pub table_change : (to : List ℕ) → Change
table_change to = record { below = length to; to = by_table to }

-- The change that a writer is told: none, or that by a table.
abbrev pub change_of : Option (Bor (List ℕ)) → Change
change_of None = unchanged
change_of (Some to) = table_change to.now

-- The argument t stands at its places.
abbrev pub Stood : Option (Bor (List ℕ)) → (s : List ℕ) → Argument → Expr → Type 0
Stood indexes s a t = ArgumentAt (change_of indexes) s a.start a.end t

-- What is written of it.
abbrev pub written : Option (Bor (List ℕ)) → Argument → Expr → List ℕ
written indexes a t = expr_bytes ((change_of indexes).to (join_side a.side) t)

-- The same of two.
abbrev pub BothStood : Option (Bor (List ℕ)) → (s : List ℕ) → (one two : Argument) → Expr × Expr → Type 0
BothStood indexes s one two = Both (Stood indexes s one) (Stood indexes s two)

abbrev pub both_written : Option (Bor (List ℕ)) → (one two : Argument) → Expr × Expr → List ℕ
both_written indexes one two = joined (written indexes one) (written indexes two)
