-- Which columns are referenced, as flags.
use Rattle.std.specs.Prelude.{ℕ, ◌≡◌, List, [], ◌∷◌, length, set}
use Rattle.definitions.specs.Words.Expression.{Expr}
use Rattle.definitions.specs.Bytes.Decode.{index_below}
use Rattle.definitions.specs.Words.References.{columns_of}
use Rattle.expression.specs.Nodes.{Spans}

-- The flags once these columns are marked.
unfoldable pub marked : (columns flags : List ℕ) → List ℕ
marked [] flags = flags
marked (index ∷ columns) flags = marked columns (set flags index 1)

-- An expression stands there up to its end, with a flag for each of its columns; these were marked.
abbrev pub Flagged : (s : List ℕ) (at end : ℕ) (flags : List ℕ) → Type 0
Flagged s at end flags = (t : Expr) × Spans (index_below (length flags)) s at end t

abbrev pub Collected : (s : List ℕ) (at end : ℕ) (before after : List ℕ) → Type 0
Collected s at end before after = (t : Expr) → Spans (index_below (length before)) s at end t → after ≡ marked (columns_of t) before
