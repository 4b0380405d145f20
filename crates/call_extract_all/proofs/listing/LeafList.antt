-- What is listed of a single leaf.
use Rattle.std.specs.Prelude.{if◌then◌else◌}
use Prim.Native.Nat.{ℕ, ◌+◌, ◌≤◌, ◌<◌}
use native.Mathlib.Omega.{arith}
use mathlib.Core.Path.{◌≡◌, refl, sym, ap, ◌∙◌, subst}
use mathlib.Core.Bool.{Bool, true, false, not}
use mathlib.Core.List.{List, [], ◌∷◌, map, append-nil}
use mathlib.Core.Option.{Option, none, some}
use lib.ListN.{length, set}
use borrow.Author.Tests.{not-true}
use Rattle.definitions.specs.Words.Expression.{Expr, Record, Predicate}
use Rattle.definitions.specs.Words.Leaves.{leaves}
use Rattle.definitions.specs.Filter.Extract.{is_knn, Matcher}
use Rattle.definitions.specs.Filter.Conjuncts.{positions_from, matching, is_other, match_count}
use Rattle.definitions.specs.Calls.ExtractAll.{pick_bytes, picks_bytes}
use Rattle.byte_writer.specs.Written.{Wrote}
use Rattle.byte_writer.specs.Writing.{Room}
use Rattle.byte_writer.proofs.Written.{store}
use Rattle.plan_writer.specs.Predicates.{predicate_bytes}
use Rattle.sedona_query_planner.specs.Predicates.{on_children, PredicateAt}
use Rattle.sedona_query_planner.specs.declared.spatial_predicate.SpatialPredicate.{SpatialPredicate}
use Rattle.sedona_query_planner.specs.declared.spatial_predicate.SpatialPredicate.TheVariants.{Distance, Relation, KNearestNeighbors}
use Rattle.sedona_query_planner.specs.declared.spatial_predicate.KNNPredicate.{KNNPredicate}
use Rattle.plan_writer.specs.Arguments.{table_change}
use Rattle.plan_writer.proofs.ChildLaws.{by-children}
use Rattle.leaf_matching.specs.Frames.{Over}
use Rattle.leaf_pick.specs.Picks.{matches}
use Rattle.call_extract_all.specs.Listings.{listed, Listable, ListFits, ListIs}
use Rattle.call_extract_all.specs.declared.listing.Tally.{Tally}

-- ---- the bytes of one match

one-listed : (test : Predicate → Bool) (position : ℕ) (q : Predicate) → test q ≡ true → listed test position (some q ∷ [])
    ≡ predicate_bytes position q
unfolding matching positions_from picks_bytes pick_bytes predicate_bytes
one-listed test position q e =
    ap (λ (b : Bool). picks_bytes (if b then record { position = position; predicate = q } ∷ [] else [])) e
    ∙ append-nil (pick_bytes (record { position = position; predicate = q }))

none-listed : (test : Predicate → Bool) (position : ℕ) (q : Predicate) → test q ≡ false → listed test position (some q ∷ []) ≡ []
unfolding matching positions_from picks_bytes
none-listed test position q e = ap (λ (b : Bool). picks_bytes (if b then record { position = position; predicate = q } ∷ [] else [])) e

not-other : (q : Predicate) → is_knn q ≡ true → is_other q ≡ false
unfolding is_other
not-other q e = ap not e

-- ---- what is written of a leaf

module _ {position : ℕ} {knns others gone : List ℕ} (room : position < length gone) where
  pub knn-listed : {knns' : List ℕ} (q : Predicate) (w : ℕ) → is_knn q ≡ true → w ≡ length (predicate_bytes position q)
      → Wrote (predicate_bytes position q) knns knns'
      → ListIs position (some q ∷ []) knns knns' others others gone (set gone position 1)
      (record { position = position + 1; knn = w; other = 0; rounds = 1 })
  unfolding match_count
  knn-listed {knns'} q w e size wrote = record {
    counted = refl;
    rounds = refl;
    knn = size ∙ ap length (sym (one-listed is_knn position q e));
    other = ap length (sym (none-listed is_other position q (not-other q e)));
    knn_wrote = subst (λ (x : List ℕ). Wrote x knns knns') (sym (one-listed is_knn position q e)) wrote;
    other_wrote = subst (λ (x : List ℕ). Wrote x others others) (sym (none-listed is_other position q (not-other q e))) refl;
    flags = store gone position 1 room;
  }

  pub other-listed : {others' : List ℕ} (q : Predicate) (w : ℕ) → is_other q ≡ true → w ≡ length (predicate_bytes position q)
      → Wrote (predicate_bytes position q) others others'
      → ListIs position (some q ∷ []) knns knns others others' gone (set gone position 1)
      (record { position = position + 1; knn = 0; other = w; rounds = 1 })
  unfolding match_count is_knn is_other
  other-listed {others'} q w e size wrote =
      let no : is_knn q ≡ false = not-true (is_knn q) e in
      record {
        counted = refl;
        rounds = refl;
        knn = ap length (sym (none-listed is_knn position q no));
        other = size ∙ ap length (sym (one-listed is_other position q e));
        knn_wrote = subst (λ (x : List ℕ). Wrote x knns knns) (sym (none-listed is_knn position q no)) refl;
        other_wrote = subst (λ (x : List ℕ). Wrote x others others') (sym (one-listed is_other position q e)) wrote;
        flags = store gone position 1 room;
      }

  pub none-is-listed : ListIs position (none ∷ []) knns knns others others gone (set gone position 0)
      (record { position = position + 1; knn = 0; other = 0; rounds = 0 })
  unfolding match_count matching positions_from picks_bytes
  none-is-listed = record {
    counted = refl;
    rounds = refl;
    knn = refl;
    other = refl;
    knn_wrote = refl;
    other_wrote = refl;
    flags = store gone position 0 room;
  }

-- ---- which kind it is

pub knn-is : (s : List ℕ) (records : List Record) (p : KNNPredicate) (q : Predicate)
    → PredicateAt (on_children records) s (KNearestNeighbors p) q → is_knn q ≡ true
unfolding is_knn
knn-is s records p q h = rw h.is refl

pub other_is : (s : List ℕ) (records : List Record) (p : SpatialPredicate) (q : Predicate)
    → ((k : KNNPredicate) → p ≡ KNearestNeighbors k → ⊥) → PredicateAt (on_children records) s p q → is_other q ≡ true
unfolding is_knn is_other
other_is s records (Relation p) q n h = rw h.is refl
other_is s records (Distance p) q n h = rw h.is refl
other_is s records (KNearestNeighbors p) q n h = absurd (n p refl)

-- ---- a leaf in its frame

module _ {match : Matcher} {s : List ℕ} {rec count at position : ℕ} {to knns others gone : List ℕ}
    (f : ListFits match s rec count at position to knns others gone) where
  pub over : {records : List Record} {t : Expr} → Listable s rec count at records t → Over s rec at records t
  over l = record { entries = l.entries.bytes; tree = l.tree }

  -- A match of its leaf, by the table.
  pub by-table : {records : List Record} {t : Expr} → Listable s rec count at records t → (p : SpatialPredicate) (q : Predicate)
      → PredicateAt (on_children records) s p q → PredicateAt (table_change to) s p q
  by-table {records} l p q h =
      let count-is : length records ≡ count = l.entries.counted in
      by-children records to (omega (arith, l.few, count-is, f.wide)) (rw count-is (f.table records l.entries)) s p q h

  module _ (single : leaves f.tree ≡ f.tree ∷ []) where
    leaf-match : matches match f.records f.tree ≡ match f.records f.tree ∷ []
    leaf-match = ap (map (match f.records)) single

    pub flag-room : position < length gone
    flag-room = omega (arith, f.flags, ap length single)

    -- A match has room where what is listed of the leaf has.
    pub match-room : {out : List ℕ} (test : Predicate → Bool)
        → length (listed test position (matches match f.records f.tree)) ≤ length out → (p : SpatialPredicate) {q : Predicate}
        → match f.records f.tree ≡ some q → PredicateAt (on_children f.records) s p q → test q ≡ true
        → Room (PredicateAt (table_change to) s p) (predicate_bytes position) 0 out
    match-room test room p {q} is stands passes = record {
      it = q;
      stands = by-table f.frame p q stands;
      room = omega (
        arith,
        room,
        ap (λ (x : List (Option Predicate)). length (listed test position x))
            (leaf-match ∙ ap (λ (x : Option Predicate). x ∷ []) is),
        ap length (one-listed test position q passes),
      );
    }

-- The list of a leaf is that of its match.
pub leaf-is : (match : Matcher) (records : List Record) {t : Expr} {position : ℕ}
    {knns knns' others others' gone gone' : List ℕ} {r : Tally}
    → leaves t ≡ t ∷ [] → (m : Option Predicate) → match records t ≡ m → ListIs position (m ∷ []) knns knns' others others' gone gone' r
    → ListIs position (matches match records t) knns knns' others others' gone gone' r
leaf-is match records {t} {position} {knns} {knns'} {others} {others'} {gone} {gone'} {r} single m e h =
    subst (λ (x : List (Option Predicate)). ListIs position x knns knns' others others' gone gone' r)
    (sym (ap (map (match records)) single ∙ ap (λ (x : Option Predicate). x ∷ []) e)) h
