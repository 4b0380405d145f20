-- Which matches the settings leave.
use Rattle.std.specs.Prelude.{if◌then◌else◌, Ok, Err}
use Prim.Native.Nat.{ℕ, ◌/◌, ◌%◌}
use native.Mathlib.Omega.{arith}
use mathlib.Core.Path.{◌≡◌, sym, ap, ◌∙◌}
use mathlib.Core.Bool.{Bool, true, false, ◌&&◌}
use mathlib.Core.Option.{Option, none, some}
use lib.Dec.{leb, eqb}
use borrow.Author.Tests.{eq-eqb, ne_eqb}
use Rattle.definitions.specs.Words.Expression.{Predicate}
use Rattle.definitions.specs.Filter.Settings.{Settings, has_bit, allowed, passing}
use Rattle.sedona_query_planner.specs.Predicates.{on_children}
use Rattle.sedona_query_planner.specs.declared.spatial_predicate.RelationPredicate.{RelationPredicate}
use Rattle.sedona_query_planner.specs.declared.spatial_predicate.DistancePredicate.{DistancePredicate}
use Rattle.sedona_query_planner.specs.declared.spatial_predicate.KNNPredicate.{KNNPredicate}
use Rattle.sedona_query_planner.specs.declared.spatial_predicate.SpatialPredicate.{SpatialPredicate}
use Rattle.sedona_query_planner.specs.declared.spatial_predicate.SpatialPredicate.TheVariants.{Distance, Relation, KNearestNeighbors}
use Rattle.leaf_matching.specs.Matches.{Lacks, AllowedIs, Allows}
use Rattle.leaf_matching.specs.declared.matching.NoMatch.{NoMatch}
use Rattle.leaf_matching.specs.declared.matching.NoMatch.TheVariants.{Unmatched, NotAsked}

-- ---- a predicate by its kind

module _ (S : Settings) where
  pub relation-allowed : {p : RelationPredicate} → AllowedIs S (Relation p) (eqb (S.kinds % 2) 1)
  unfolding allowed has_bit
  relation-allowed change s q at =
      ap (λ (n : ℕ). eqb n 1) (let same : S.kinds % 2 ≡ S.kinds / 1 % 2 = omega arith in same) ∙ sym (ap (allowed S) at.is)

  pub distance-allowed : {p : DistancePredicate} → AllowedIs S (Distance p) (eqb (S.kinds / 2 % 2) 1)
  unfolding allowed has_bit
  distance-allowed change s q at = sym (ap (allowed S) at.is)

  pub knn-not-allowed : {p : KNNPredicate} → (S.kinds / 4 % 2 ≡ 1 → ⊥) → AllowedIs S (KNearestNeighbors p) false
  unfolding allowed has_bit
  knn-not-allowed {p} f change s q at =
      sym (ap (allowed S) at.is ∙ ap (λ (b : Bool). b && leb p.k S.greatest_k) (ne_eqb (S.kinds / 4 % 2) 1 f))

  pub knn-allowed : {p : KNNPredicate} → S.kinds / 4 % 2 ≡ 1 → AllowedIs S (KNearestNeighbors p) (leb p.k S.greatest_k)
  unfolding allowed has_bit
  knn-allowed {p} f change s q at =
      sym (ap (allowed S) at.is ∙ ap (λ (b : Bool). b && leb p.k S.greatest_k) (eq-eqb (S.kinds / 4 % 2) 1 f))

  -- ---- what is left of a match

  module _ (p : SpatialPredicate) (told : Bool) (is : AllowedIs S p told) where
    pub stays : told ≡ true → Allows S (Ok p) (Ok p)
    unfolding passing
    stays e kind s records match m =
        record {
          q = m.q;
          is = ap (passing (allowed S)) m.is
              ∙ ap (λ (b : Bool). if b then some m.q else none) (sym (is (on_children records) s m.q m.stands) ∙ e);
          passes = m.passes;
          stands = m.stands;
        }

    pub goes : told ≡ false → Allows S (Ok p) (Err Unmatched)
    unfolding passing
    goes e kind s records match m =
        ap (passing (allowed S)) m.is
        ∙ ap (λ (b : Bool). if b then some m.q else none) (sym (is (on_children records) s m.q m.stands) ∙ e)

  none_stays : Allows S (Err Unmatched) (Err Unmatched)
  unfolding passing
  none_stays kind s records match m = ap (passing (allowed S)) m

  -- What passes a test or not is still not of a kind.
  pub passing-lacks : (kind : Predicate → Bool) (match : Option Predicate) → Lacks kind match → Lacks kind (passing (allowed S) match)
  unfolding passing
  passing-lacks kind none h = tt
  passing-lacks kind (some q) h = by (allowed S q)
    where
      by : (b : Bool) → Lacks kind (if b then some q else none)
      by true = h
      by false = tt

  lacks-stays : Allows S (Err NotAsked) (Err NotAsked)
  lacks-stays kind s records match m = passing-lacks kind match m

  pub no-match_stays : (why : NoMatch) → Allows S (Err why) (Err why)
  no-match_stays Unmatched = none_stays
  no-match_stays NotAsked = lacks-stays
