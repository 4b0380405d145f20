-- Where one AND-leaf of an expression stands.
use Rattle.std.specs.Prelude.{ℕ, ◌+◌, ◌≡◌, [], ◌∷◌, length}
use Rattle.definitions.specs.Words.Expression.{Expr, and}
use Rattle.definitions.specs.Bytes.Encode.{expr_bytes}
use Rattle.definitions.specs.Words.Leaves.{leaves}
use Rattle.expression.specs.Nodes.{left_of, right_of}
use Rattle.expression.specs.declared.cuts.Cut.{Cut}

-- The AND-leaf at a position, from 0, of the expression at a place is the one that the cut says; `up` is the place of the And above.
pub data CutAt (cut : Cut) : (up : ℕ) → Expr → (at position : ℕ) → Type 0 where
  here : {up : ℕ} {t : Expr} {at : ℕ} → leaves t ≡ t ∷ [] → cut.leaf ≡ at → cut.end ≡ at + length (expr_bytes t) → cut.parent ≡ up
      → CutAt cut up t at 0
  in_left : {up : ℕ} {l r : Expr} {at position : ℕ} → CutAt cut at l (left_of at) position → CutAt cut up (and l r) at position
  in_right : {up : ℕ} {l r : Expr} {at position : ℕ} → CutAt cut at r (right_of at l) position
      → CutAt cut up (and l r) at (length (leaves l) + position)
