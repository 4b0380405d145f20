-- The arguments of each predicate: where they stand, and what was collected of them.
use Prim.Native.Nat.{ℕ, ◌+◌, ◌≤◌}
use native.Mathlib.Omega.{arith}
use mathlib.Core.Path.{◌≡◌, sym, ap, ap₂, ◌∙◌, subst}
use mathlib.Core.List.{List, ◌++◌}
use lib.ListN.{length, length-append}
use Rattle.definitions.specs.Words.Basics.{big_endian}
use Rattle.definitions.specs.Words.Limits.{two_bytes}
use Rattle.definitions.specs.Words.Expression.{Side, left, right, Expr, Predicate}
use Rattle.definitions.specs.Bytes.Encode.{expr_bytes, predicate_fields}
use Rattle.definitions.specs.Bytes.Decode.{index_below}
use Rattle.definitions.specs.Filter.Exchange.{negate}
use Rattle.expression.specs.Nodes.{Stands}
use Rattle.terms.specs.Sides.{join_side}
use Rattle.sedona_query_planner.specs.Predicates.{unchanged, ArgumentAt}
use Rattle.sedona_query_planner.specs.declared.spatial_predicate.RelationPredicate.{RelationPredicate}
use Rattle.sedona_query_planner.specs.declared.spatial_predicate.DistancePredicate.{DistancePredicate}
use Rattle.sedona_query_planner.specs.declared.spatial_predicate.KNNPredicate.{KNNPredicate}
use Rattle.sedona_query_planner.specs.declared.spatial_predicate.SpatialPredicate.{SpatialPredicate}
use Rattle.sedona_query_planner.specs.declared.spatial_predicate.SpatialPredicate.TheVariants.{Distance, Relation, KNearestNeighbors}
use Rattle.projection.specs.Spots.{Spot, column_spots}
use Rattle.projection.specs.Rows.{ColumnsFit, SpotsPut, ColumnsCollected}
use Rattle.projection.specs.declared.spots.Spotted.{Spotted}
use Rattle.projection.proofs.SpotWalk.{index-after, collected-both}
use Rattle.projection.specs.PlanSpots.{both_spots, predicate_spots}
use Rattle.projection.specs.Arguments.{BothThere, BothFit, BothCollected, PredicateThere, ArgumentsFit}
use Rattle.projection.proofs.BothLaws.{counted-from}

-- Two arguments in a row.
both-there : {s : List ℕ} {first first_end second end : ℕ} {l r : Expr} → ArgumentAt unchanged s first first_end l
    → ArgumentAt unchanged s second end r → second ≡ first_end → BothThere s first l r
both-there {s} {r = r} one two e = record {
  first = one.stands;
  second = subst (λ (at : ℕ). Stands (index_below two_bytes) s at r) (e ∙ one.ends) two.stands;
}

-- ---- two geometries and nothing more

-- A predicate whose arguments are two, from a place up to the end of its fields.
pub record OfTwo (s : List ℕ) (P : Predicate) (one two : Side) (at : ℕ) : Type 0 where
  pub l : Expr
  pub r : Expr
  pub there : BothThere s at l r
  pub size : 3 + length (predicate_fields P) ≡ at + (length (expr_bytes l) + length (expr_bytes r))
  pub spots : predicate_spots P ≡ both_spots one two at l r

pub relation-two : {s : List ℕ} {q : RelationPredicate} {P : Predicate} → PredicateThere s (Relation q) P → OfTwo s P left right q.left
unfolding predicate_fields predicate_spots
relation-two {s} {q} {P} t =
    let a = t.read in
    let size : 3 + length (predicate_fields P) ≡ 4 + (length (expr_bytes a.l) + length (expr_bytes a.r)) =
    ap (λ (P : Predicate). 3 + length (predicate_fields P)) a.is ∙ simp length-append (omega arith) in
    let four : 4 ≡ q.left = omega (arith, size, t.in_row.0, t.in_row.1, a.left.ends, a.right.ends) in
    record {
      l = a.l;
      r = a.r;
      there = both-there a.left a.right t.in_row.0;
      size = omega (arith, size, four);
      spots = ap predicate_spots a.is ∙ ap (λ (at : ℕ). both_spots left right at a.l a.r) four;
    }

pub knn-two : {s : List ℕ} {q : KNNPredicate} {P : Predicate} → PredicateThere s (KNearestNeighbors q) P → (other : Side)
    → other ≡ negate (join_side q.probe_side) → OfTwo s P (join_side q.probe_side) other q.left
unfolding predicate_fields predicate_spots big_endian
knn-two {s} {q} {P} t other e =
    let a = t.read in
    let size : 3 + length (predicate_fields P) ≡ 10 + (length (expr_bytes a.l) + length (expr_bytes a.r)) =
    ap (λ (P : Predicate). 3 + length (predicate_fields P)) a.is ∙ simp length-append (omega arith) in
    let ten : 10 ≡ q.left = omega (arith, size, t.in_row.0, t.in_row.1, a.left.ends, a.right.ends) in
    record {
      l = a.l;
      r = a.r;
      there = both-there a.left a.right t.in_row.0;
      size = omega (arith, size, ten);
      spots = ap predicate_spots a.is
          ∙ ap₂ (λ (at : ℕ) (side : Side). both_spots (join_side q.probe_side) side at a.l a.r) ten (sym e);
    }

module _ {s : List ℕ} {one two : Side} {at : ℕ} where
  pub two-fit : {p : SpatialPredicate} {row : List ℕ} (f : ArgumentsFit s p row) → OfTwo s f.P one two at → BothFit s at one two row
  two-fit {row = row} f t = record {
    l = t.l;
    r = t.r;
    there = t.there;
    short = omega (arith, f.short, t.size);
    room = subst (λ (x : List Spot). length x ≤ length row) t.spots f.room;
  }

  pub two-collected : (before after : List ℕ) (r : Spotted) → BothCollected s at one two before after r → {P : Predicate}
      → OfTwo s P one two at → SpotsPut 3 (length (predicate_fields P)) 0 (predicate_spots P) before after r
  two-collected before after r is {P} t =
      subst (λ (x : List Spot). SpotsPut 3 (length (predicate_fields P)) 0 x before after r) (sym t.spots)
      (counted-from (is t.l t.r t.there) 3 (length (predicate_fields P)) (omega (arith, t.size)))

-- ---- a distance

-- Its bound stands after its two geometries.
pub record OfThree (s : List ℕ) (P : Predicate) (side : Side) (at : ℕ) : Type 0 where
  pub l : Expr
  pub r : Expr
  pub bound : Expr
  pub there : BothThere s at l r
  pub after : Stands (index_below two_bytes) s (at + (length (expr_bytes l) + length (expr_bytes r))) bound
  pub size : 3 + length (predicate_fields P) ≡ at + (length (expr_bytes l) + length (expr_bytes r)) + length (expr_bytes bound)
  pub spots : predicate_spots P
      ≡ both_spots left right at l r ++ column_spots side (at + (length (expr_bytes l) + length (expr_bytes r))) bound

pub distance-three : {s : List ℕ} {q : DistancePredicate} {P : Predicate} → PredicateThere s (Distance q) P
    → OfThree s P (join_side q.distance_side) q.left
unfolding predicate_fields predicate_spots
distance-three {s} {q} {P} t =
    let a = t.read in
    let (second, third, end) = t.in_row in
    let both : ℕ = length (expr_bytes a.l) + length (expr_bytes a.r) in
    let size : 3 + length (predicate_fields P) ≡ 5 + both + length (expr_bytes a.bound) =
    ap (λ (P : Predicate). 3 + length (predicate_fields P)) a.is ∙ simp length-append (omega arith) in
    let five : 5 ≡ q.left = omega (arith, size, second, third, end, a.left.ends, a.right.ends, a.limit.ends) in
    record {
      l = a.l;
      r = a.r;
      bound = a.bound;
      there = both-there a.left a.right second;
      after = subst (λ (at : ℕ). Stands (index_below two_bytes) s at a.bound)
          (omega (arith, second, third, a.left.ends, a.right.ends)) a.limit.stands;
      size = omega (arith, size, five);
      spots = ap predicate_spots a.is
          ∙ ap (λ (at : ℕ). both_spots left right at a.l a.r ++ column_spots (join_side q.distance_side) (at + both) a.bound) five;
    }

module _ {s : List ℕ} {side : Side} {at : ℕ} where
  pub distance-fits : {p : SpatialPredicate} {row : List ℕ} (f : ArgumentsFit s p row) → OfThree s f.P side at
      → BothFit s at left right row
  distance-fits {row = row} f t = record {
    l = t.l;
    r = t.r;
    there = t.there;
    short = omega (arith, f.short, t.size);
    room = omega (arith, simp length-append at (ap length t.spots), f.room);
  }

  pub bound-fits : {p : SpatialPredicate} {row : List ℕ} (f : ArgumentsFit s p row) → OfThree s f.P side at → (middle : List ℕ)
      → length middle ≡ length row → (b : Spotted) → BothCollected s at left right row middle b → ColumnsFit s b.end side b.index middle
  bound-fits {row = row} f t middle same b is =
      let a = is t.l t.r t.there in
      record {
        tree = t.bound;
        stands = subst (λ (q : ℕ). Stands (index_below two_bytes) s q t.bound) (sym a.ends) t.after;
        short = omega (arith, f.short, t.size, a.ends);
        room = subst (λ (q : ℕ). b.index + length (column_spots side q t.bound) ≤ length middle) (sym a.ends)
            (omega (arith, index-after a, simp length-append at (ap length t.spots), f.room));
      }

  pub three-collected : (before middle after : List ℕ) (b r : Spotted) → BothCollected s at left right before middle b
      → ColumnsCollected s b.end side b.index middle after r → {P : Predicate} → OfThree s P side at
      → SpotsPut 3 (length (predicate_fields P)) 0 (predicate_spots P) before after r
  three-collected before middle after b r both last {P} t =
      let a = both t.l t.r t.there in
      let c : SpotsPut b.end (length (expr_bytes t.bound)) b.index (column_spots side b.end t.bound) middle after r =
      last t.bound (subst (λ (q : ℕ). Stands (index_below two_bytes) s q t.bound) (sym a.ends) t.after) in
      subst (λ (x : List Spot). SpotsPut 3 (length (predicate_fields P)) 0 x before after r)
      (ap (λ (q : ℕ). both_spots left right at t.l t.r ++ column_spots side q t.bound) a.ends ∙ sym t.spots)
      (counted-from (collected-both (omega arith) a c) 3 (length (predicate_fields P)) (omega (arith, t.size)))
