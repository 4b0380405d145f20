-- The fields of a predicate as numbers and the arguments after them, and its bytes as its first byte, its position and its fields.
use Prim.Native.Nat.{ℕ, ◌≤◌}
use native.Mathlib.Omega.{arith}
use mathlib.Core.Path.{◌≡◌, sym, ap, ◌∙◌}
use mathlib.Core.List.{List, [], ◌∷◌, ◌++◌, append_assoc}
use lib.ListN.{length}
use lib.Seq.{sets}
use Rattle.definitions.specs.Words.Basics.{big_endian}
use Rattle.std.specs.Prelude.{Option}
use Rattle.std.specs.Borrow.{Bor}
use Rattle.definitions.specs.Words.Expression.{Predicate}
use Rattle.definitions.specs.Bytes.Encode.{side_number, relation_number, predicate_kind, predicate_fields}
use Rattle.definitions.specs.Filter.Exchange.{negate}
use Rattle.terms.specs.Sides.{join_side}
use Rattle.terms.specs.declared.sides.JoinSide.{JoinSide}
use Rattle.terms.specs.declared.sides.JoinSide.TheVariants.{Left, Right}
use Rattle.sedona_query_planner.specs.Relations.{relation_of}
use Rattle.sedona_query_planner.specs.Predicates.{flag, ties_number, Change, RelationAt, DistanceAt, KnnAt, PredicateAt}
use Rattle.sedona_query_planner.specs.declared.spatial_predicate.RelationPredicate.{RelationPredicate}
use Rattle.sedona_query_planner.specs.declared.spatial_predicate.DistancePredicate.{DistancePredicate}
use Rattle.sedona_query_planner.specs.declared.spatial_predicate.KNNPredicate.{KNNPredicate}
use Rattle.sedona_query_planner.specs.declared.spatial_predicate.SpatialPredicate.{SpatialPredicate}
use Rattle.sedona_query_planner.specs.declared.spatial_predicate.SpatialPredicate.TheVariants.{Distance, Relation, KNearestNeighbors}
use Rattle.byte_writer.specs.Written.{WroteAt}
use Rattle.byte_writer.specs.Writing.{Both, joined}
use Rattle.byte_writer.proofs.Written.{chain}
use Rattle.byte_writer.proofs.Sequence.{stores, Headed}
use Rattle.plan_writer.specs.Arguments.{change_of, Stood, written, BothStood, both_written}
use Rattle.plan_writer.specs.Predicates.{head_of, predicate_bytes, kind_of, knn_head}
use Rattle.plan_writer.specs.declared.arguments.Argument.{Argument}

-- An argument from a place up to its end.
abbrev argument : (start end : ℕ) → JoinSide → Argument
argument start end side = record { start = start; end = end; side = side }

module _ (indexes : Option (Bor (List ℕ))) (s : List ℕ) where
  -- A head, then a left and a right argument.
  abbrev SidesAfter : (h : List ℕ) (left right : Argument) → List ℕ → Type 0
  SidesAfter h left right = Headed h (BothStood indexes s left right) (both_written indexes left right)

  pub relation-view : (p : RelationPredicate) {number : ℕ} → number ≡ relation_number (relation_of p.relation_type) → (P : Predicate)
      → RelationAt (change_of indexes) s p P
      → SidesAfter (number ∷ []) (argument p.left p.left_end Left) (argument p.right p.right_end Right) (predicate_fields P)
  unfolding predicate_fields
  relation-view p e P h = record { it = (h.l, h.r); stands = record { one = h.left; two = h.right }; is = rw (h.is, e) }

  pub knn-view : (p : KNNPredicate) (other : JoinSide) → join_side other ≡ negate (join_side p.probe_side) → (P : Predicate)
      → KnnAt (change_of indexes) s p P
      → SidesAfter (knn_head p) (argument p.left p.left_end p.probe_side) (argument p.right p.right_end other) (predicate_fields P)
  unfolding predicate_fields knn_head big_endian
  knn-view p other negated P h = record { it = (h.l, h.r); stands = record { one = h.left; two = h.right }; is = rw (h.is, negated) }

  -- The distance is a third argument after them.
  module _ (p : DistancePredicate) where
    abbrev left_one : Argument
    left_one = argument p.left p.left_end Left

    abbrev right_one : Argument
    right_one = argument p.right p.right_end Right

    abbrev pub bound : Argument
    bound = argument p.distance p.distance_end p.distance_side

    pub distance-view : {number : ℕ} → number ≡ side_number (join_side p.distance_side) → (P : Predicate)
        → DistanceAt (change_of indexes) s p P
        → Headed (p.form ∷ number ∷ []) (Both (BothStood indexes s left_one right_one) (Stood indexes s bound))
        (joined (both_written indexes left_one right_one) (written indexes bound)) (predicate_fields P)
    unfolding predicate_fields
    distance-view e P h = record {
      it = ((h.l, h.r), h.bound);
      stands = record { one = record { one = h.left; two = h.right }; two = h.limit };
      is =
          rw (h.is, e, append_assoc (written indexes left_one h.l) (written indexes right_one h.r) (written indexes bound h.bound));
    }

-- What the head of KNN has after k.
abbrev flags : KNNPredicate → List ℕ
flags p = flag p.use_spheroid ∷ side_number (join_side p.probe_side) ∷ ties_number p.include_tie_breakers ∷ []

-- Where k is written, these end its head.
pub knn-head : (p : KNNPredicate) (before : List ℕ) {middle : List ℕ} {r : ℕ} → 7 ≤ length before → length middle ≡ length before
    → WroteAt 0 (big_endian 4 p.k) before middle r
    → WroteAt 0 (knn_head p) before (sets middle 4 (flags p)) 7
unfolding knn_head big_endian
knn-head p before {middle} {r} room same number =
    let end : r ≡ 4 = number.ends in
    chain (omega arith) (rw end at number) (stores (flags p) middle 4 (omega arith))

-- ---- the first byte and the position, then the fields

first_byte : (change : Change) (s : List ℕ) (p : SpatialPredicate) (P : Predicate) → PredicateAt change s p P → predicate_kind P ≡ kind_of p
unfolding predicate_kind
first_byte change s (Distance p) P h = ap predicate_kind h.is
first_byte change s (Relation p) P h = ap predicate_kind h.is
first_byte change s (KNearestNeighbors p) P h = ap predicate_kind h.is

-- A predicate is its first byte with its position and then its fields.
abbrev pub PredicateView : Change → List ℕ → SpatialPredicate → (kind position : ℕ) → Type 0
PredicateView change s p kind position =
    (P : Predicate) → PredicateAt change s p P
    → Headed (head_of kind position) (PredicateAt change s p) predicate_fields (predicate_bytes position P)

pub predicate-view : (change : Change) (s : List ℕ) (p : SpatialPredicate) (kind position : ℕ) → kind ≡ kind_of p
    → PredicateView change s p kind position
unfolding predicate_bytes head_of
predicate-view change s p kind position e P h = record {
  it = P;
  stands = h;
  is = ap (λ (n : ℕ). n ∷ (big_endian 2 position ++ predicate_fields P)) (first_byte change s p P h ∙ sym e);
}
