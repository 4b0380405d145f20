-- What the writers of expressions write.
use Rattle.std.specs.Prelude.{ℕ, ◌+◌, List, length, get_or}
use Rattle.definitions.specs.Words.Expression.{Expr, Exprs}
use Rattle.definitions.specs.Bytes.Encode.{expr_bytes, exprs_bytes}
use Rattle.definitions.specs.Bytes.Decode.{index_below}
use Rattle.definitions.specs.Words.References.{map_columns, map_columns_all}
use Rattle.expression.specs.Places.{Holds}
use Rattle.expression.specs.Nodes.{Spans}
use Rattle.byte_writer.specs.Written.{WroteAt}

-- The bytes of an expression whose columns have the indexes that a table gives them; of several.
abbrev pub copy_of : (to : List ℕ) → Expr → List ℕ
copy_of to t = expr_bytes (map_columns (λ index. get_or to index 0) t)

abbrev pub copies_of : (to : List ℕ) → Exprs → List ℕ
copies_of to ts = exprs_bytes (map_columns_all (λ index. get_or to index 0) ts)

-- An expression stands there up to its end, its columns in the table.
abbrev pub InTable : (s : List ℕ) (start end : ℕ) (to : List ℕ) → Expr → Type 0
InTable s start end to t = Spans (index_below (length to)) s start end t

-- Such an expression stands in `out` at w too.
pub record PatchFits (s : List ℕ) (start end : ℕ) (to : List ℕ) (w : ℕ) (out : List ℕ) : Type 0 where
  pub tree : Expr
  pub stands : InTable s start end to tree
  pub copied : Holds out w (expr_bytes tree)

-- It stands there with its new indexes.
abbrev pub Patched : (s : List ℕ) (start end : ℕ) (to : List ℕ) (w : ℕ) (before after : List ℕ) → Type 0
Patched s start end to w before after =
    (t : Expr) → InTable s start end to t → Holds before w (expr_bytes t)
    → WroteAt w (copy_of to t) before after (w + length (copy_of to t))
