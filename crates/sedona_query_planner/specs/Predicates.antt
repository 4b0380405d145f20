-- Which predicate of the definitions the code's stands for: its arguments at places of bytes, and what becomes of them.
use Rattle.std.specs.Prelude.{ℕ, ◌≡◌, Bool, true, false, List, length, eqb, if◌then◌else◌, Option, Some, None}
use Rattle.definitions.specs.Words.Limits.{two_bytes}
use Rattle.definitions.specs.Words.Expression as tree
use Rattle.definitions.specs.Words.Expression.{Expr, Record, Predicate, relation, distance, knn}
use Rattle.definitions.specs.Bytes.Decode.{index_below}
use Rattle.definitions.specs.Filter.Match.{on_child}
use Rattle.definitions.specs.Filter.Exchange.{negate, exchange_predicate}
use Rattle.terms.specs.Sides.{join_side}
use Rattle.expression.specs.Nodes.{Spans}
use Rattle.sedona_query_planner.specs.Relations.{relation_of}
use Rattle.sedona_query_planner.specs.declared.spatial_predicate.RelationPredicate.{RelationPredicate}
use Rattle.sedona_query_planner.specs.declared.spatial_predicate.DistancePredicate.{DistancePredicate}
use Rattle.sedona_query_planner.specs.declared.spatial_predicate.KNNPredicate.{KNNPredicate}
use Rattle.sedona_query_planner.specs.declared.spatial_predicate.SpatialPredicate.{SpatialPredicate}
use Rattle.sedona_query_planner.specs.declared.spatial_predicate.SpatialPredicate.TheVariants.{Distance, Relation, KNearestNeighbors}

-- ---- numbers

-- False is 0, true 1.
abbrev pub flag : Bool → ℕ
flag false = 0
flag true = 1

-- Ties: 0 or 1, or 2 for absent.
abbrev pub ties_number : Option Bool → ℕ
ties_number (Some value) = flag value
ties_number None = 2

-- The number that any number is read as: 0, 1, else 2.
abbrev pub ties_numbered : ℕ → ℕ
ties_numbered number = if eqb number 0 then 0 else if eqb number 1 then 1 else 2

-- ---- arguments

-- What becomes of an argument of a side; the indexes of its columns are below a bound.
pub record Change : Type 0 where
  pub below : ℕ
  pub to : tree.Side → Expr → Expr

-- It stays as it is.
abbrev pub unchanged : Change
unchanged = record { below = two_bytes; to = λ side t. t }

-- An argument of a side on its child; one of side none is copied.
unfoldable pub bound_on : List Record → tree.Side → Expr → Expr
bound_on records tree.left t = on_child records t
bound_on records tree.right t = on_child records t
bound_on records tree.no_side t = t

-- It is put on its child, or copied if its side is none.
abbrev pub on_children : List Record → Change
on_children records = record { below = length records; to = bound_on records }

-- It stands from a place up to its end.
abbrev pub ArgumentAt : Change → List ℕ → (at end : ℕ) → Expr → Type 0
ArgumentAt change s at end t = Spans (index_below change.below) s at end t

-- ---- predicates

-- P is what p says of the arguments at its places, each changed by its side.
pub record RelationAt (change : Change) (s : List ℕ) (p : RelationPredicate) (P : Predicate) : Type 0 where
  pub l : Expr
  pub r : Expr
  pub left : ArgumentAt change s p.left p.left_end l
  pub right : ArgumentAt change s p.right p.right_end r
  pub is : P ≡ relation (relation_of p.relation_type) (change.to tree.left l) (change.to tree.right r)

pub record DistanceAt (change : Change) (s : List ℕ) (p : DistancePredicate) (P : Predicate) : Type 0 where
  pub l : Expr
  pub r : Expr
  pub bound : Expr
  pub left : ArgumentAt change s p.left p.left_end l
  pub right : ArgumentAt change s p.right p.right_end r
  pub limit : ArgumentAt change s p.distance p.distance_end bound
  pub is : P ≡ distance p.form (join_side p.distance_side) (change.to tree.left l) (change.to tree.right r)
      (change.to (join_side p.distance_side) bound)

-- The first geometry of KNN is of the probe side, the second of the other.
pub record KnnAt (change : Change) (s : List ℕ) (p : KNNPredicate) (P : Predicate) : Type 0 where
  pub l : Expr
  pub r : Expr
  pub left : ArgumentAt change s p.left p.left_end l
  pub right : ArgumentAt change s p.right p.right_end r
  pub is : P ≡ knn p.k (flag p.use_spheroid) (join_side p.probe_side) (ties_number p.include_tie_breakers)
      (change.to (join_side p.probe_side) l) (change.to (negate (join_side p.probe_side)) r)

abbrev pub PredicateAt : Change → List ℕ → SpatialPredicate → Predicate → Type 0
PredicateAt change s (Distance p) P = DistanceAt change s p P
PredicateAt change s (Relation p) P = RelationAt change s p P
PredicateAt change s (KNearestNeighbors p) P = KnnAt change s p P

-- Wherever the first stands for P, the second stands for P exchanged.
abbrev pub Exchanges : (first second : List ℕ → Predicate → Type 0) → Type 0
Exchanges first second = (s : List ℕ) (P : Predicate) → first s P → second s (exchange_predicate P)
