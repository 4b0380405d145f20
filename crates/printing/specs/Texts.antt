-- What the contracts of the walks say: the text of an expression, and of children in a row.
use Rattle.std.specs.Prelude.{ℕ, suc, ◌+◌, ◌≤◌, ◌≡◌, List, [], ◌++◌, length, drop}
use Rattle.definitions.specs.Words.Expression.{Expr, Exprs, nil, cons}
use Rattle.definitions.specs.Bytes.Encode.{expr_bytes, exprs_bytes}
use Rattle.definitions.specs.Bytes.Decode.{index_below}
use Rattle.definitions.specs.Bytes.Good.{InRangeAll}
use Rattle.definitions.specs.Bytes.Printed.{printed}
use Rattle.expression.specs.Nodes.{Row}
use Rattle.byte_writer.specs.Written.{WroteAt}
use Rattle.printing.specs.Marks.{before_of, PhysicalAt}
use Rattle.printing.specs.declared.texts.Printed.{Printed}

-- ---- the length

-- Expressions of a physical frame stand from a place up to the end.
pub record RowToEnd (s : List ℕ) (at bound : ℕ) (ts : Exprs) : Type 0 where
  pub bytes : drop at s ≡ exprs_bytes ts
  pub in_range : InRangeAll (index_below bound) ts
  pub within : at ≤ length s

-- One does.
pub record TextAt (s : List ℕ) (at : ℕ) (t : Expr) : Type 0 where
  pub bound : ℕ
  pub row : RowToEnd s at bound (cons t nil)

-- Some does, whose text is no longer than that of a good frame; what is claimed of it.
abbrev pub TextThere : (s : List ℕ) → (at : ℕ) → Type 0
TextThere s at = (t : Expr) × TextAt s at t × (length (printed t) ≤ 26620)

abbrev pub OfText : (s : List ℕ) → (at : ℕ) → (Expr → Type 0) → Type 0
OfText s at P = (t : Expr) → TextAt s at t → P t

-- ---- the text

-- The text of a parent's children from a position on, with what stands before each of them.
unfoldable pub texts_from : (position : ℕ) → (parent : Expr) → Exprs → List ℕ
texts_from position parent nil = []
texts_from position parent (cons t ts) = before_of position parent ++ (printed t ++ texts_from (suc position) parent ts)

-- `size` bytes were read at a place, and a text was written from w on.
pub record PrintIs (at size w : ℕ) (text before after : List ℕ) (r : Printed) : Type 0 where
  pub read : r.read ≡ at + size
  pub out : WroteAt w text before after r.wrote

-- The text of the expression at a place was written.
abbrev pub NodePrinted : (s : List ℕ) → (at w : ℕ) → (before after : List ℕ) → Printed → Type 0
NodePrinted s at w before after r =
    (t : Expr) → PhysicalAt s at t → PrintIs at (length (expr_bytes t)) w (printed t) before after r

-- n expressions stand in a row, the children of the node at `parent` from a position on, and there is room for their text.
pub record RowFits (s : List ℕ) (parent at n position w : ℕ) (out : List ℕ) : Type 0 where
  pub above : Expr
  pub above_at : PhysicalAt s parent above
  pub bound : ℕ
  pub trees : Exprs
  pub row : Row (index_below bound) s at n trees
  pub room : w + length (texts_from position above trees) ≤ length out

-- That text was written.
abbrev pub RowPrinted : (s : List ℕ) → (parent at n position w : ℕ) → (before after : List ℕ) → Printed → Type 0
RowPrinted s parent at n position w before after r =
    (above : Expr) → PhysicalAt s parent above → (bound : ℕ) (ts : Exprs) → Row (index_below bound) s at n ts
    → PrintIs at (length (exprs_bytes ts)) w (texts_from position above ts) before after r
