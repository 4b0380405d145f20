-- What the answers about held predicates say: which predicate it is, and where its arguments stand.
use Rattle.std.specs.Prelude.{ℕ, ◌*◌, ◌≤◌, ◌<◌, ◌≡◌, List, length, drop, Result, Ok, Err}
use Rattle.definitions.specs.Words.Limits.{most_nodes, two_bytes}
use Rattle.definitions.specs.Words.Expression as tree
use Rattle.definitions.specs.Words.Expression.{Expr}
use Rattle.definitions.specs.Bytes.Readers.{read, stopped, Reader, ◌>>=◌, give}
use Rattle.definitions.specs.Bytes.Decode.{argument}
use Rattle.terms.specs.Refusals.{number_of}
use Rattle.terms.specs.declared.refusals.Refusal.{Refusal}
use Rattle.sedona_query_planner.specs.Predicates.{unchanged, ArgumentAt, PredicateAt}
use Rattle.sedona_query_planner.specs.declared.spatial_predicate.SpatialPredicate.{SpatialPredicate}
use Rattle.sedona_query_planner.specs.declared.spatial_predicate.SpatialPredicate.TheVariants.{Distance, Relation, KNearestNeighbors}
use Rattle.frame_reader.specs.declared.frame_bodies.Counted.{Counted}
use Rattle.plan_reader.specs.declared.held_predicates.Pair.{Pair}

-- So many nodes were counted up to a place: at most the limit, and a third of the bytes before it.
abbrev pub CountedUpTo : (at count : ℕ) → Type 0
CountedUpTo at count = (3 * count ≤ at) × (count ≤ most_nodes)

-- Up to a place in bytes that are so few that two bytes hold a place.
pub record Few (s : List ℕ) (at count : ℕ) : Type 0 where
  pub within : at ≤ length s
  pub short : length s < two_bytes
  pub counted : CountedUpTo at count

-- ---- two arguments

-- Left and right, and what comes after them.
abbrev pub then_both : (Expr → Expr → Reader tree.Predicate) → Reader tree.Predicate
then_both next = do
  l ← argument
  r ← argument
  next l r

-- Two arguments were read.
abbrev pub PairIs : List ℕ → (at : ℕ) → Result Pair Refusal → Type 0
PairIs s at (Ok p) =
    (p.end ≤ length s) × (l r : Expr) × ArgumentAt unchanged s at p.right l × ArgumentAt unchanged s p.right p.end r
    × ((next : Expr → Expr → Reader tree.Predicate) → then_both next 0 (drop at s) ≡ next l r p.count (drop p.end s))
    × CountedUpTo p.end p.count
PairIs s at (Err why) = (next : Expr → Expr → Reader tree.Predicate) → then_both next 0 (drop at s) ≡ stopped (number_of why)

-- ---- predicates

-- What follows the form and the side of a distance.
abbrev pub distance_arguments : (form : ℕ) → tree.Side → Reader tree.Predicate
distance_arguments form side = then_both (λ l r. argument >>= λ bound. give (tree.distance form side l r bound))

-- Each argument stands where the one before it ends, and the last one up to this end.
abbrev pub InRow : SpatialPredicate → (end : ℕ) → Type 0
InRow (Relation p) end = (p.right ≡ p.left_end) × (end ≡ p.right_end)
InRow (Distance p) end = (p.right ≡ p.left_end) × (p.distance ≡ p.right_end) × (end ≡ p.distance_end)
InRow (KNearestNeighbors p) end = (p.right ≡ p.left_end) × (end ≡ p.right_end)

-- A predicate was read.
abbrev pub PredicateIs : List ℕ → (at : ℕ) → Result (Counted SpatialPredicate) Refusal → Reader tree.Predicate → Type 0
PredicateIs s at (Ok p) reader =
    (p.next ≤ length s) × (P : tree.Predicate) × PredicateAt unchanged s p.read P
    × (reader 0 (drop at s) ≡ read P p.count (drop p.next s)) × InRow p.read p.next × CountedUpTo p.next p.count
PredicateIs s at (Err why) reader = reader 0 (drop at s) ≡ stopped (number_of why)
