-- Matching of a leaf, from that of the function that it is, and of both kinds that are not KNN from that of each.
use Rattle.std.specs.Prelude.{Ok, Err}
use Prim.Native.Nat.{ℕ, ◌+◌, ◌<◌}
use mathlib.Core.Path.{◌≡◌, refl, sym, subst}
use mathlib.Core.Bool.{Bool, true, false}
use mathlib.Core.List.{List}
use mathlib.Core.Option.{Option, none, some}
use lib.ListN.{length}
use Rattle.definitions.specs.Words.Expression.{Expr, Record, Predicate, relation, distance, knn}
use Rattle.definitions.specs.Bytes.Decode.{index_below}
use Rattle.definitions.specs.Filter.Match.{match_leaf, match_leaf_by}
use Rattle.definitions.specs.Filter.Extract.{is_knn}
use Rattle.expression.specs.Leaves.{CallIs, OfCall}
use Rattle.expression.specs.declared.leaves.Called.{Called}
use Rattle.expression.specs.declared.leaves.Node.TheVariants.{Call}
use Rattle.node_table.specs.declared.NodeRecord.{NodeRecord as Lent}
use Rattle.filter_tree.specs.Trees.{Node, NodedAll}
use Rattle.filter_tree.proofs.Scans.{noded-within}
use Rattle.filter_tree.proofs.Indexes.{call-noded}
use Rattle.leaf_matching.specs.Frames.{Over, CallOver, CallFramed, OfCallFrame}
use Rattle.leaf_matching.specs.Matches.{is_relation, is_distance, Lacks, Matching, MatchingIs, LeafMatchingBy, LeafMatching, CallMatchingBy}
use Rattle.leaf_pick.specs.Picks.{is_other, LeafThere}
use Rattle.leaf_pick.specs.declared.first_match.Leaf.{Leaf}
use Rattle.sedona_query_planner.specs.declared.spatial_predicate.SpatialPredicate.{SpatialPredicate}
use Rattle.leaf_matching.specs.declared.matching.NoMatch.TheVariants.{Unmatched, NotAsked}

-- ---- a leaf

pub leaf-node : {s : List ℕ} {nodes : List Lent} {rec : ℕ} {leaf : Leaf} → LeafThere s nodes rec leaf → Node nodes leaf.stop.index
leaf-node there = (_, _, there.noded _ _ there.framed.2.tree)

pub leaf-within : {s : List ℕ} {nodes : List Lent} {rec : ℕ} {leaf : Leaf} → LeafThere s nodes rec leaf → leaf.stop.index < length nodes
leaf-within there = noded-within (leaf-node there).2

-- ---- a leaf that is a function

module _ {s : List ℕ} {nodes : List Lent} {rec : ℕ} {leaf : Leaf} (there : LeafThere s nodes rec leaf) {k : Called}
    (told : leaf.node ≡ Call k) where
  its-call : {records : List Record} {t : Expr} → Over s rec leaf.stop.at records t
      → CallIs (index_below (length records)) s leaf.stop.at k t
  its-call {records} {t} over = rw told at (there.is (index_below (length records)) t over.tree)

  call-over : {records : List Record} {t : Expr} → (over : Over s rec leaf.stop.at records t)
      → CallOver s rec k records (its-call over).name (its-call over).arguments
  call-over over = record { entries = over.entries; stands = (its-call over).stands }

  pub call-leaf : (d : ℕ) (kind : Predicate → Bool) (r : Matching) → OfCallFrame s rec k (CallMatchingBy d kind s r)
      → {records : List Record} {t : Expr} → Over s rec leaf.stop.at records t → LeafMatchingBy d kind s r records t
  call-leaf d kind r answer {records} {t} over =
      let it : CallIs (index_below (length records)) s leaf.stop.at k t = its-call over in
      subst (λ (t : Expr). MatchingIs kind s records (match_leaf_by d records t) r) (sym it.is)
      (answer records it.name it.arguments (call-over over))

  -- Its arguments stand there, and have the indexes after it.
  pub call-given : CallFramed s rec k × OfCall s k (λ c name. NodedAll nodes k.first (leaf.stop.index + 1))
  call-given =
      let over = there.framed.2 in
      let it = its-call over in (
        (there.framed.0, it.name, it.arguments, call-over over),
        call-noded (there.noded _ there.framed.1 over.tree) it,
      )

-- ---- kinds that are not KNN

relation-other : (q : Predicate) → is_relation q ≡ true → is_other q ≡ true
unfolding is_relation is_knn
relation-other (relation type l r) e = refl
relation-other (distance form side l r bound) e = refl
relation-other (knn k spheroid probe ties l r) e = e

distance-other : (q : Predicate) → is_distance q ≡ true → is_other q ≡ true
unfolding is_distance is_knn
distance-other (relation type l r) e = refl
distance-other (distance form side l r bound) e = refl
distance-other (knn k spheroid probe ties l r) e = e

neither-other : (q : Predicate) → is_relation q ≡ false → is_distance q ≡ false → is_other q ≡ false
unfolding is_relation is_distance is_knn
neither-other (relation type l r) e f = e
neither-other (distance form side l r bound) e f = f
neither-other (knn k spheroid probe ties l r) e f = refl

lacks-other : (match : Option Predicate) → Lacks is_relation match → Lacks is_distance match → Lacks is_other match
lacks-other none e f = tt
lacks-other (some q) e f = neither-other q e f

module _ {s : List ℕ} {rec at : ℕ} {records : List Record} {t : Expr} (over : Over s rec at records t) where
  relation-matched : (p : SpatialPredicate) → LeafMatching is_relation s (Ok p) records t
      → LeafMatching is_other s (Ok p) records t
  relation-matched p m = record { q = m.q; is = m.is; passes = relation-other _ m.passes; stands = m.stands }

  -- What is asked of the relations is answered.
  pub asked-matched : (r : Matching) → LeafMatching is_relation s r records t → (r ≡ Err NotAsked → ⊥)
      → LeafMatching is_other s r records t
  asked-matched (Ok p) m asked = relation-matched p m
  asked-matched (Err Unmatched) m asked = m
  asked-matched (Err NotAsked) m asked = absurd (asked refl)

  -- A leaf that is no relation is of a kind that is not KNN if it is a distance.
  pub distance-matching : (r : Matching) → Lacks is_relation (match_leaf records t) → LeafMatching is_distance s r records t
      → LeafMatching is_other s r records t
  distance-matching (Ok p) e m = record { q = m.q; is = m.is; passes = distance-other _ m.passes; stands = m.stands }
  distance-matching (Err Unmatched) e m = m
  distance-matching (Err NotAsked) e m = lacks-other (match_leaf records t) e m
