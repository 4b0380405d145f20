-- What the answers about sides mean.
use Rattle.std.specs.Prelude.{ℕ, ◌+◌, ◌/◌, ◌%◌, ◌≡◌, eqb, bit_or, if◌then◌else◌, List, [], ◌∷◌, map, length, Option, Some, None}
use Rattle.definitions.specs.Words.Expression.{Side, left, right, no_side, Expr, Record}
use Rattle.definitions.specs.Bytes.Encode.{expr_bytes}
use Rattle.definitions.specs.Filter.Match as definition
use Rattle.definitions.specs.Words.References.{columns_of, record_at}
use Rattle.definitions.specs.Filter.Match.{ArgumentSide, no_columns, all_on, mixed, side_of, order_of}
use Rattle.terms.specs.Sides.{join_side}
use Rattle.terms.specs.declared.sides.JoinSide.TheVariants as side
use Rattle.leaf_matching.specs.declared.sides.Sides.{Sides}
use Rattle.leaf_matching.specs.declared.sides.Sides.TheVariants.{NoColumns, AllOn, Mixed}
use Rattle.leaf_matching.specs.declared.sides.SeenSides.{SeenSides}
use Rattle.leaf_matching.specs.declared.sides.SideFlags.{SideFlags}
use Rattle.leaf_matching.specs.declared.sides.Geometries.{Geometries}
use Rattle.leaf_matching.specs.declared.sides.Order.{Order}
use Rattle.leaf_matching.specs.declared.sides.Order.TheVariants.{LeftRight, RightLeft}

-- The side of the columns seen.
abbrev pub argument_side : Sides → ArgumentSide
argument_side NoColumns = no_columns
argument_side (AllOn side) = all_on (join_side side)
argument_side Mixed = mixed

-- How two geometries lie.
abbrev pub order : Option Order → definition.Order
order (Some LeftRight) = definition.left_right
order (Some RightLeft) = definition.right_left
order None = definition.no_order

-- No column yet, one column more, and a list of them.
abbrev pub nothing_seen : SeenSides
nothing_seen = record { bits = 0 }

abbrev pub bit_of : Side → ℕ
bit_of left = 1
bit_of right = 2
bit_of no_side = 4

abbrev pub see : SeenSides → Side → SeenSides
see seen x = record { bits = bit_or seen.bits (bit_of x) }

unfoldable pub see_all : SeenSides → List Side → SeenSides
see_all seen [] = seen
see_all seen (x ∷ xs) = see_all (see seen x) xs

-- What these columns are.
abbrev pub sides_by : (bits : ℕ) → Sides
sides_by bits =
    if eqb bits 0 then NoColumns else
    if eqb bits 1 then AllOn side.Left else
    if eqb bits 2 then AllOn side.Right else
    if eqb bits 4 then AllOn side.None else
    Mixed

abbrev pub sides_seen : SeenSides → Sides
sides_seen seen = sides_by seen.bits

-- Of which there are any.
abbrev pub side_flags : SeenSides → SideFlags
side_flags seen =
    record { left = eqb (seen.bits % 2) 1; right = eqb (seen.bits / 2 % 2) 1; mark = eqb (seen.bits / 4 % 2) 1 }

-- The sides of an expression's columns.
abbrev pub sides_in : List Record → List ℕ → List Side
sides_in records indexes = map (λ index. (record_at records index).side) indexes

-- What was seen are its columns.
abbrev pub ColumnsSeen : SeenSides → List Record → Expr → Type 0
ColumnsSeen r records t = r ≡ see_all nothing_seen (sides_in records (columns_of t))

-- Where the second of two geometries begins, where it ends, and how the two lie.
pub record GeometriesAre (at : ℕ) (r : Geometries) (records : List Record) (a b : Expr) : Type 0 where
  pub second : r.second ≡ at + length (expr_bytes a)
  pub end : r.end ≡ r.second + length (expr_bytes b)
  pub order : order r.order ≡ order_of (side_of records a) (side_of records b)
