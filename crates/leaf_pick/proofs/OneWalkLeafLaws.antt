-- What a leaf makes of the walk's memory, by its match.
use Rattle.std.specs.Prelude.{Some, None}
use Prim.Native.Nat.{ℕ, suc}
use mathlib.Core.Path.{◌≡◌, refl, sym, ap, ◌∙◌}
use mathlib.Core.Bool.{false, not, false≢true}
use mathlib.Core.List.{List}
use mathlib.Core.Option.{Option, none, some}
use borrow.Author.Tests.{not-true}
use Rattle.definitions.specs.Words.Expression.{Expr, Record, Predicate}
use Rattle.definitions.specs.Filter.Extract as definition
use Rattle.definitions.specs.Filter.Extract.{is_knn, is_knn_match, first_of, Matcher}
use Rattle.definitions.specs.Filter.OneWalk.{reading, read_leaf}
use Rattle.leaf_matching.specs.Matches.{Lacks, Matches}
use Rattle.sedona_query_planner.specs.declared.spatial_predicate.SpatialPredicate.{SpatialPredicate}
use Rattle.leaf_pick.specs.Picks.{is_other}
use Rattle.leaf_pick.specs.Walks.{Memory, seen_here, Remembers, SeenHere, same, here, StoppedIs, GoingIs}
use Rattle.leaf_pick.specs.declared.first_match.Leaf.{Leaf}
use Rattle.leaf_pick.specs.declared.one_walk.SeenLeaf.{SeenLeaf}

-- ---- the definition's step

far_from : (m : Option Predicate) → Lacks is_knn m → is_knn_match m ≡ false
unfolding is_knn_match
far_from none h = refl
far_from (some q) h = h

-- Once something is remembered it stays.
read_known : (n : ℕ) (p : definition.Pick) (m : Option Predicate) → Lacks is_knn m → read_leaf n (some p) m ≡ reading (suc n) (some p)
unfolding read_leaf first_of
read_known n p none h = refl
read_known n p (some q) h = rw h

pub no-match : (m : Option Predicate) → Lacks is_knn m → Lacks is_other m → m ≡ none
no-match none h k = refl
no-match (some q) h k = absurd (false≢true (sym k ∙ ap not h))

-- ---- by what the matchers answer

module _ {match : Matcher} {s : List ℕ} {index position : ℕ} {records : List Record} {t : Expr} where
  pub leaf-unmatched : {memory : Memory} → match records t ≡ none → (first : Option definition.Pick) → Remembers s records memory first
      → GoingIs match s index position first memory memory records t
  unfolding read_leaf is_knn_match
  leaf-unmatched e first r = record { now-first = first; is = rw e; far = rw e; remembers = r; kept = same }

  pub leaf-known : {known : SeenLeaf} → Lacks is_knn (match records t) → (first : Option definition.Pick)
      → Remembers s records (Some known) first → GoingIs match s index position first (Some known) (Some known) records t
  leaf-known h first (p, e, is) = record {
    now-first = some p;
    is = rw e (read_known position p (match records t) h);
    far = far_from (match records t) h;
    remembers = (p, refl, is);
    kept = same;
  }

  pub leaf-neither : {memory : Memory} → Lacks is_knn (match records t) → Lacks is_other (match records t)
      → (first : Option definition.Pick) → Remembers s records memory first → GoingIs match s index position first memory memory records t
  leaf-neither h k = leaf-unmatched (no-match (match records t) h k)

here-seen : (leaf : Leaf) (predicate : SpatialPredicate) → SeenHere leaf.stop.index leaf.stop.position (seen_here leaf predicate)
here-seen leaf predicate = record { same = refl; counted = refl }

module _ {match : Matcher} {s : List ℕ} (leaf : Leaf) {records : List Record} {t : Expr} (predicate : SpatialPredicate) where
  pub leaf-stops : Matches is_knn s records predicate (match records t) → (first : Option definition.Pick)
      → StoppedIs match s leaf.stop.index leaf.stop.position first (seen_here leaf predicate) records t
  unfolding read_leaf is_knn_match
  leaf-stops m first = record {
    p = record { position = leaf.stop.position; predicate = m.q };
    is = rw (m.is, m.passes);
    near = rw m.is m.passes;
    seen-is = record { position = refl; stands = m.stands };
    seen_here = here-seen leaf predicate;
  }

  pub leaf_first : Matches is_other s records predicate (match records t) → (first : Option definition.Pick)
      → Remembers s records None first
      → GoingIs match s leaf.stop.index leaf.stop.position first None (Some (seen_here leaf predicate)) records t
  unfolding read_leaf is_knn_match first_of
  leaf_first m first e =
      let q : definition.Pick = record { position = leaf.stop.position; predicate = m.q } in
      let far : is_knn m.q ≡ false = not-true (is_knn m.q) m.passes in
      record {
        now-first = some q;
        is = rw (m.is, far, e);
        far = rw m.is far;
        remembers = (q, refl, record { position = refl; stands = m.stands });
        kept = here (here-seen leaf predicate);
      }
