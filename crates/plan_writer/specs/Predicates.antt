-- The bytes of predicates with their position, and of frames before their records.
use Rattle.std.specs.Prelude.{ℕ, List, [], ◌∷◌, ◌++◌}
use Rattle.definitions.specs.Words.Basics.{big_endian}
use Rattle.definitions.specs.Words.Expression.{Predicate}
use Rattle.definitions.specs.Bytes.Encode.{side_number, predicate_kind, predicate_fields}
use Rattle.terms.specs.Sides.{join_side}
use Rattle.sedona_query_planner.specs.Predicates.{flag, ties_number}
use Rattle.sedona_query_planner.specs.declared.spatial_predicate.KNNPredicate.{KNNPredicate}
use Rattle.sedona_query_planner.specs.declared.spatial_predicate.SpatialPredicate.{SpatialPredicate}
use Rattle.sedona_query_planner.specs.declared.spatial_predicate.SpatialPredicate.TheVariants.{Distance, Relation, KNearestNeighbors}

-- A first byte and a number of two bytes.
unfoldable pub head_of : (first number : ℕ) → List ℕ
head_of first number = first ∷ big_endian 2 number

-- A predicate: its first byte, the position of its leaf, then its fields.
unfoldable pub predicate_bytes : (position : ℕ) → Predicate → List ℕ
predicate_bytes position P = predicate_kind P ∷ (big_endian 2 position ++ predicate_fields P)

-- The first byte of the predicate that p stands for.
abbrev pub kind_of : SpatialPredicate → ℕ
kind_of (Distance p) = 0x12
kind_of (Relation p) = 0x11
kind_of (KNearestNeighbors p) = 0x13

-- The fields of KNN before its arguments.
unfoldable pub knn_head : KNNPredicate → List ℕ
knn_head p =
    big_endian 4 p.k ++ (flag p.use_spheroid ∷ side_number (join_side p.probe_side) ∷ ties_number p.include_tie_breakers ∷ [])

-- The bytes of a frame before its records.
unfoldable pub frame_head : (count : ℕ) → List ℕ
frame_head count = 1 ∷ big_endian 2 count
