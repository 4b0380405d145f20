-- A predicate whose arguments are put on their children is what the table of child indexes makes of it.
use Prim.Native.Nat.{ℕ, ◌≤◌}
use mathlib.Core.Path.{◌≡◌, refl, sym, ap₂, ◌∙◌}
use mathlib.Core.List.{List}
use lib.ListN.{length, get_or}
use Rattle.definitions.specs.Words.Expression.{Side, left, right, no_side, Expr, Record, Predicate, relation, knn}
use Rattle.definitions.specs.Bytes.Decode.{index_below}
use Rattle.definitions.specs.Filter.Match.{on_child}
use Rattle.sedona_query_planner.specs.Predicates.{bound_on}
use Rattle.definitions.specs.Bytes.Good.{InRange}
use Rattle.definitions.specs.Filter.Exchange.{negate}
use Rattle.terms.specs.Sides.{join_side}
use Rattle.sedona_query_planner.specs.Relations.{relation_of}
use Rattle.sedona_query_planner.specs.Predicates.{flag, ties_number, on_children, ArgumentAt, PredicateAt}
use Rattle.sedona_query_planner.specs.declared.spatial_predicate.SpatialPredicate.{SpatialPredicate}
use Rattle.sedona_query_planner.specs.declared.spatial_predicate.SpatialPredicate.TheVariants.{Distance, Relation, KNearestNeighbors}
use Rattle.plan_writer.specs.Tables.{Table, child_of}
use Rattle.plan_writer.specs.Arguments.{by_table, table_change}
use Rattle.plan_writer.proofs.Ranges.{wider-stands, map-agrees}

module _ (records : List Record) (to : List ℕ) (wide : length records ≤ length to)
    (table : Table (child_of records) (length records) to) where
  on-side : (side : Side) (t : Expr) → InRange (index_below (length records)) t → bound_on records side t ≡ by_table to side t
  unfolding bound_on on_child
  on-side left t range = sym (map-agrees (length records) (λ i. get_or to i 0) (child_of records) table.entry t range)
  on-side right t range = sym (map-agrees (length records) (λ i. get_or to i 0) (child_of records) table.entry t range)
  on-side no_side t range = refl

  argument : {s : List ℕ} {at end : ℕ} {t : Expr} → ArgumentAt (on_children records) s at end t
      → ArgumentAt (table_change to) s at end t
  argument h = record { stands = wider-stands wide h.stands; ends = h.ends }

  changed : {s : List ℕ} {at end : ℕ} {t : Expr} (side : Side) → ArgumentAt (on_children records) s at end t
      → bound_on records side t ≡ by_table to side t
  changed {t = t} side h = on-side side t h.stands.in_range

  pub by-children : (s : List ℕ) (p : SpatialPredicate) (q : Predicate) → PredicateAt (on_children records) s p q
      → PredicateAt (table_change to) s p q
  by-children s (Relation p) q h = record {
    l = h.l;
    r = h.r;
    left = argument h.left;
    right = argument h.right;
    is = h.is ∙ ap₂ (relation (relation_of p.relation_type)) (changed left h.left) (changed right h.right);
  }
  by-children s (Distance p) q h = record {
    l = h.l;
    r = h.r;
    bound = h.bound;
    left = argument h.left;
    right = argument h.right;
    limit = argument h.limit;
    is = h.is ∙ rw (changed left h.left, changed right h.right, changed (join_side p.distance_side) h.limit);
  }
  by-children s (KNearestNeighbors p) q h = record {
    l = h.l;
    r = h.r;
    left = argument h.left;
    right = argument h.right;
    is = h.is ∙ ap₂ (knn p.k (flag p.use_spheroid) (join_side p.probe_side) (ties_number p.include_tie_breakers))
        (changed (join_side p.probe_side) h.left) (changed (negate (join_side p.probe_side)) h.right);
  }
