-- What is collected of a predicate's arguments. (Ours.)
use Rattle.std.specs.Prelude.{ℕ, ◌+◌, ◌≤◌, List, length}
use Rattle.definitions.specs.Words.Limits.{most_bytes, two_bytes}
use Rattle.definitions.specs.Words.Expression.{Side, Expr, Predicate}
use Rattle.definitions.specs.Bytes.Encode.{expr_bytes, predicate_fields}
use Rattle.definitions.specs.Bytes.Decode.{index_below}
use Rattle.expression.specs.Nodes.{Stands}
use Rattle.sedona_query_planner.specs.Predicates.{unchanged, PredicateAt}
use Rattle.sedona_query_planner.specs.declared.spatial_predicate.SpatialPredicate.{SpatialPredicate}
use Rattle.plan_reader.specs.Predicates.{InRow}
use Rattle.projection.specs.Rows.{SpotsPut}
use Rattle.projection.specs.declared.spots.Spotted.{Spotted}
use Rattle.projection.specs.PlanSpots.{both_spots, predicate_spots}

-- Two expressions stand there, one after the other.
pub record BothThere (s : List ℕ) (at : ℕ) (l r : Expr) : Type 0 where
  pub first : Stands (index_below two_bytes) s at l
  pub second : Stands (index_below two_bytes) s (at + length (expr_bytes l)) r

-- There are such two, and the row has room for their columns; what is collected of them.
pub record BothFit (s : List ℕ) (at : ℕ) (one two : Side) (row : List ℕ) : Type 0 where
  pub l : Expr
  pub r : Expr
  pub there : BothThere s at l r
  pub short : at + (length (expr_bytes l) + length (expr_bytes r)) ≤ most_bytes
  pub room : length (both_spots one two at l r) ≤ length row

abbrev pub BothCollected : (s : List ℕ) (at : ℕ) (one two : Side) (before after : List ℕ) → Spotted → Type 0
BothCollected s at one two before after p =
    (l r : Expr) → BothThere s at l r
    → SpotsPut at (length (expr_bytes l) + length (expr_bytes r)) 0 (both_spots one two at l r) before after p

-- The predicate P is the one that was read; its arguments stand in a row at the end of its fields, which begin after the first byte and the
-- position.
pub record PredicateThere (s : List ℕ) (p : SpatialPredicate) (P : Predicate) : Type 0 where
  pub read : PredicateAt unchanged s p P
  pub in_row : InRow p (3 + length (predicate_fields P))

-- There is such a one, and the row has room; what is collected of it.
pub record ArgumentsFit (s : List ℕ) (p : SpatialPredicate) (row : List ℕ) : Type 0 where
  pub P : Predicate
  pub there : PredicateThere s p P
  pub short : 3 + length (predicate_fields P) ≤ most_bytes
  pub room : length (predicate_spots P) ≤ length row

abbrev pub ArgumentsCollected : (s : List ℕ) → SpatialPredicate → (before after : List ℕ) → Spotted → Type 0
ArgumentsCollected s p before after r =
    (P : Predicate) → PredicateThere s p P → SpotsPut 3 (length (predicate_fields P)) 0 (predicate_spots P) before after r
