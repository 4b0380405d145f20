-- The exchange of a predicate, where it stood: what is written over a part of it makes the exchanged one of it.
use Prim.Native.Nat.{ℕ, ◌≤◌}
use native.Mathlib.Omega.{arith}
use mathlib.Core.Path.{◌≡◌, refl, sym, ap, ◌∙◌}
use mathlib.Core.List.{List, [], ◌∷◌, ◌++◌, append_assoc}
use lib.ListN.{length, set, length-append}
use Rattle.definitions.specs.Words.Basics.{big_endian}
use Rattle.definitions.specs.Words.Expression.{Expr, Predicate, relation, distance, knn, invert}
use Rattle.definitions.specs.Bytes.Encode.{expr_bytes, side_number, relation_number, predicate_kind, predicate_fields}
use Rattle.definitions.specs.Filter.Exchange.{negate, exchange_predicate}
use Rattle.terms.specs.Sides.{join_side}
use Rattle.expression.specs.Places.{Between}
use Rattle.expression.proofs.Standing.{spans-between}
use Rattle.byte_writer.specs.Writing.{Room, PutsAt, Both, joined, same}
use Rattle.sedona_query_planner.specs.Relations.{relation_of}
use Rattle.sedona_query_planner.specs.Predicates.{unchanged, ArgumentAt, RelationAt, DistanceAt, KnnAt}
use Rattle.sedona_query_planner.specs.declared.spatial_predicate.RelationPredicate.{RelationPredicate}
use Rattle.sedona_query_planner.specs.declared.spatial_predicate.DistancePredicate.{DistancePredicate}
use Rattle.sedona_query_planner.specs.declared.spatial_predicate.KNNPredicate.{KNNPredicate}
use Rattle.plan_writer.specs.Predicates.{predicate_bytes}
use Rattle.call_exchange.specs.Turned.{TurnedAt}
use Rattle.call_exchange.specs.Exchanged.{PredicateTurned}
use Rattle.call_exchange.proofs.TurnedLaws.{wrote-turned, middle-turned}

-- ---- two arguments, one after the other

abbrev pub Pair : (s : List ℕ) (left left_end right right_end : ℕ) → List ℕ × List ℕ → Type 0
Pair s left left_end right right_end = Both (Between s left left_end) (Between s right right_end)

abbrev pub pair_bytes : List ℕ × List ℕ → List ℕ
pair_bytes = joined same same

module _ {s : List ℕ} {left left_end right right_end : ℕ} where
  pair : {l r : Expr} → ArgumentAt unchanged s left left_end l → ArgumentAt unchanged s right right_end r
      → Pair s left left_end right right_end (expr_bytes l, expr_bytes r)
  pair one two = record { one = spans-between one; two = spans-between two }

  -- Put over the same two in the other order.
  pair-turned : {l r l' r' : Expr} {w e : ℕ} {before after : List ℕ} → ArgumentAt unchanged s left left_end l'
      → ArgumentAt unchanged s right right_end r' → r ≡ l' → l ≡ r'
      → PutsAt (Pair s left left_end right right_end) pair_bytes w before after e
      → TurnedAt w (expr_bytes l ++ expr_bytes r) (expr_bytes r ++ expr_bytes l) before after
  pair-turned {l} {r} one two first second put =
      let wrote = put.wrote _ (pair one two) in
      wrote-turned (expr_bytes l ++ expr_bytes r) (simp length-append (omega arith)) (rw (← first, ← second) at wrote)

-- ---- a relation

module _ {s : List ℕ} (p : RelationPredicate) where
  pub relation-room : {before out : List ℕ} → length out ≡ length before → Room (RelationAt unchanged s p) predicate_fields 3 before
      → Room (Pair s p.left p.left_end p.right p.right_end) pair_bytes 4 out
  unfolding predicate_fields
  relation-room same_length room =
      let h = room.stands in
      record {
        it = (expr_bytes h.l, expr_bytes h.r);
        stands = pair h.left h.right;
        room = omega (arith, same_length, rw h.is at room.room);
      }

  pub relation-turned : (P : Predicate) → RelationAt unchanged s p (exchange_predicate P) → {before after : List ℕ} {e number : ℕ}
      → number ≡ relation_number (relation_of p.relation_type)
      → PutsAt (Pair s p.left p.left_end p.right p.right_end) pair_bytes 4 (set before 3 number) after e
      → PredicateTurned P before after
  unfolding predicate_bytes predicate_kind predicate_fields big_endian exchange_predicate
  relation-turned (relation type l r) h {before} {after} {e} {number} is put position tail stood =
      let first : r ≡ h.l = cc h.is in
      let second : l ≡ h.r = cc h.is in
      let head : List ℕ = 0x11 ∷ (big_endian 2 position ++ (number ∷ [])) in
      let inverse : invert type ≡ relation_of p.relation_type = cc h.is in
      rw (ap relation_number inverse ∙ sym is)
      (pair-turned {l = l} {r = r} h.left h.right first second put head refl tail (ap (λ (b : List ℕ). set b 3 number) stood))
  relation-turned (distance form side l r bound) h is put position tail stood = cc h.is
  relation-turned (knn k spheroid probe ties l r) h is put position tail stood = cc h.is

-- ---- a distance

module _ {s : List ℕ} (p : DistancePredicate) where
  pub distance-room : {before out : List ℕ} → length out ≡ length before → Room (DistanceAt unchanged s p) predicate_fields 3 before
      → Room (Pair s p.left p.left_end p.right p.right_end) pair_bytes 5 out
  unfolding predicate_fields
  distance-room same_length room =
      let h = room.stands in
      record {
        it = (expr_bytes h.l, expr_bytes h.r);
        stands = pair h.left h.right;
        room = simp length-append (omega (arith, same_length, simp length-append at (rw h.is at room.room)));
      }

  pub distance-turned : (P : Predicate) → DistanceAt unchanged s p (exchange_predicate P) → {before after : List ℕ} {e number : ℕ}
      → number ≡ side_number (join_side p.distance_side)
      → PutsAt (Pair s p.left p.left_end p.right p.right_end) pair_bytes 5 (set before 4 number) after e
      → PredicateTurned P before after
  unfolding predicate_bytes predicate_kind predicate_fields big_endian exchange_predicate
  distance-turned (relation type l r) h is put position tail stood = cc h.is
  distance-turned (distance form side l r bound) h {before} {after} {e} {number} is put position tail stood =
      let first : r ≡ h.l = cc h.is in
      let second : l ≡ h.r = cc h.is in
      let head : List ℕ = 0x12 ∷ (big_endian 2 position ++ (form ∷ number ∷ [])) in
      let other : negate side ≡ join_side p.distance_side = cc h.is in
      let there = ap (λ (b : List ℕ). set b 4 number) stood in
      let turned = middle-turned (pair-turned {l = l} {r = r} h.left h.right first second put) head (expr_bytes bound) refl tail in
      rw (ap side_number other ∙ sym is)
      (turned (there ∙ simp append_assoc) ∙ simp append_assoc)
  distance-turned (knn k spheroid probe ties l r) h is put position tail stood = cc h.is

-- ---- KNN

module _ {s : List ℕ} (p : KNNPredicate) where
  pub knn-room : {out : List ℕ} → Room (KnnAt unchanged s p) predicate_fields 3 out → 9 ≤ length out
  unfolding predicate_fields big_endian
  knn-room room =
      let h = room.stands in omega (arith, rw h.is at room.room)

  pub knn-turned : (P : Predicate) → KnnAt unchanged s p (exchange_predicate P) → {before : List ℕ} {number : ℕ}
      → number ≡ side_number (join_side p.probe_side) → PredicateTurned P before (set before 8 number)
  unfolding predicate_bytes predicate_kind predicate_fields big_endian exchange_predicate
  knn-turned (relation type l r) h is position tail stood = cc h.is
  knn-turned (distance form side l r bound) h is position tail stood = cc h.is
  knn-turned (knn k spheroid probe ties l r) h {before} {number} is position tail stood =
      let side : negate probe ≡ join_side p.probe_side = cc h.is in
      rw (stood, is, side) refl
