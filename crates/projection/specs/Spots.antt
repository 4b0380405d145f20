-- Request 7 of document 02: where child indexes stand in bytes. (Ours.)
use Rattle.std.specs.Prelude.{ℕ, ◌+◌, ◌*◌, List, [], ◌∷◌, ◌++◌, length}
use Rattle.definitions.specs.Words.Expression.{Side, Expr, column, literal, and, binary, call, other, field, Exprs, nil, cons, Record}
use Rattle.definitions.specs.Bytes.Encode.{side_number, expr_bytes}

-- A child index: the side by which it goes, the place of its two bytes, and itself.
pub record Spot : Type 0 where
  pub side : Side
  pub at : ℕ
  pub child : ℕ

-- Place, side and index in one number.
abbrev pub spot_number : Spot → ℕ
spot_number e = (e.at * 4 + side_number e.side) * 65536 + e.child

unfoldable mutual
  -- Those of the columns of an expression at a place, an argument of a side, in prefix order.
  pub column_spots : Side → (at : ℕ) → Expr → List Spot
  column_spots side at (column index tag) = record { side = side; at = at + 1; child = index } ∷ []
  column_spots side at (literal type bytes) = []
  column_spots side at (and l r) = column_spots side (at + 2) l ++ column_spots side (at + 2 + length (expr_bytes l)) r
  column_spots side at (binary operator l r) = column_spots side (at + 2) l ++ column_spots side (at + 2 + length (expr_bytes l)) r
  column_spots side at (call name arguments) = child_spots side (at + (3 + length name)) arguments
  column_spots side at (other tag children) = child_spots side (at + 4) children
  column_spots side at (field bits tag) = []

  -- Those of several expressions, one after another.
  pub child_spots : Side → (at : ℕ) → Exprs → List Spot
  child_spots side at nil = []
  child_spots side at (cons t ts) = column_spots side at t ++ child_spots side (at + length (expr_bytes t)) ts

-- Those of records at a place.
unfoldable pub record_spots : (at : ℕ) → List Record → List Spot
record_spots at [] = []
record_spots at (r ∷ rs) = record { side = r.side; at = at + 1; child = r.child } ∷ record_spots (at + 5) rs
