-- What each return of `match_knn_predicate` answers.
use Rattle.std.specs.Prelude.{Option, Some, None, Ok, Err}
use Prim.Native.Nat.{ℕ, ◌-◌, ◌≤◌, ◌<◌}
use native.Mathlib.Omega.{arith}
use mathlib.Core.Path.{◌≡◌, refl, sym, ap, ◌∙◌}
use mathlib.Core.Bool.{true}
use mathlib.Core.List.{List}
use mathlib.Core.Option.{none, some}
use Rattle.definitions.specs.Words.Basics.{ascii, same_name}
use Rattle.definitions.specs.Words.Expression.{Expr, call, Exprs, nil, cons, count, Record, knn}
use Rattle.definitions.specs.Filter.Match.{ask_nothing, knn_request_by, call_request_by, request_by, on_child, match_knn, match_request, match_leaf_by}
use Rattle.definitions.specs.Filter.Extract.{is_knn}
use Rattle.definitions.specs.Filter.Exchange.{negate}
use Rattle.expression.specs.Nodes.{OfTrees}
use Rattle.terms.specs.Sides.{join_side}
use Rattle.leaf_matching.specs.Sides.{order, GeometriesAre}
use Rattle.sedona_query_planner.specs.Predicates.{bound_on, flag, ties_number}
use Rattle.leaf_matching.specs.KnnOptions.{asked, OptionsAre}
use Rattle.leaf_matching.specs.Matches.{Lacks, CallMatchingBy}
use Rattle.expression.specs.Leaves.{OfCall}
use Rattle.node_table.specs.declared.NodeRecord.{NodeRecord as Lent}
use Rattle.filter_tree.specs.Trees.{NodedAll}
use Rattle.leaf_matching.specs.Frames.{OfArgumentTwo, CallOver}
use Rattle.leaf_matching.specs.declared.matching.NoMatch.TheVariants.{Unmatched}
use Rattle.terms.specs.declared.sides.JoinSide.TheVariants.{Left, Right}
use Rattle.leaf_matching.specs.declared.sides.Order.{Order}
use Rattle.leaf_matching.specs.declared.sides.Order.TheVariants.{LeftRight, RightLeft}
use Rattle.expression.specs.Places.{part}
use Rattle.expression.specs.declared.leaves.Called.{Called}
use Rattle.terms.specs.declared.sides.JoinSide.{JoinSide}
use Rattle.leaf_matching.specs.declared.sides.Geometries.{Geometries}
use Rattle.sedona_query_planner.specs.declared.spatial_predicate.SpatialPredicate.{SpatialPredicate}
use Rattle.sedona_query_planner.specs.declared.spatial_predicate.SpatialPredicate.TheVariants.{KNearestNeighbors}
use Rattle.leaf_matching.specs.declared.knn.KnnOptions.{KnnOptions}
use Rattle.leaf_matching.proofs.Asked.{none-lacks}
use Rattle.leaf_matching.proofs.MatchLaws.{Pair, call-pair, named}

-- ---- a function of this name

-- Fewer than two arguments, or more than five.
too_few : (d : ℕ) (ts : Exprs) → count ts < 2 → knn_request_by d ts ≡ ask_nothing
unfolding knn_request_by count
too_few d nil h = refl
too_few d (cons a nil) h = refl
too_few d (cons a (cons b ts)) h = absurd (omega arith)

too_many : (d : ℕ) (ts : Exprs) → 5 < count ts → knn_request_by d ts ≡ ask_nothing
unfolding knn_request_by count
too_many d nil h = refl
too_many d (cons a nil) h = refl
too_many d (cons a (cons b nil)) h = absurd (omega arith)
too_many d (cons a (cons b (cons c nil))) h = absurd (omega arith)
too_many n (cons a (cons b (cons c (cons d nil)))) h = absurd (omega arith)
too_many n (cons a (cons b (cons c (cons d (cons e nil))))) h = absurd (omega arith)
too_many n (cons a (cons b (cons c (cons d (cons e (cons f ts)))))) h = refl

module _ (d : ℕ) (records : List Record) (name : List ℕ) (ts : Exprs) (same : same_name name (ascii "st_knn") ≡ true) where
  pub knn-leaf : match_leaf_by d records (call name ts) ≡ match_request records (knn_request_by d ts)
  unfolding match_leaf_by request_by call_request_by
  knn-leaf = rw same

  asks_nothing : knn_request_by d ts ≡ ask_nothing → match_leaf_by d records (call name ts) ≡ none
  unfolding match_request
  asks_nothing e = knn-leaf ∙ ap (match_request records) e

  pub few-lacks : count ts < 2 → Lacks is_knn (match_leaf_by d records (call name ts))
  few-lacks h = none-lacks is_knn _ (asks_nothing (too_few d ts h))

  pub many-lacks : 5 < count ts → Lacks is_knn (match_leaf_by d records (call name ts))
  many-lacks h = none-lacks is_knn _ (asks_nothing (too_many d ts h))

-- The predicate of two geometries, the first at a place.
abbrev knn_at : (at : ℕ) → Geometries → KnnOptions → JoinSide → SpatialPredicate
knn_at at g options side = KNearestNeighbors (record {
  left = at;
  left_end = g.second;
  right = g.second;
  right_end = g.end;
  k = options.k;
  use_spheroid = options.flags.use_spheroid;
  probe_side = side;
  include_tie_breakers = options.flags.include_tie_breakers;
})

-- What is known once the geometries and the options are read.
pub record Walked (d : ℕ) (s : List ℕ) (nodes : List Lent) (rec i : ℕ) (k : Called) (g : Geometries)
    (read : Option KnnOptions) : Type 0 where
  pub same : true ≡ same_name (part s k.name k.end) (ascii "st_knn")
  pub enough : 2 ≤ k.count
  pub noded : OfCall s k (λ c name. NodedAll nodes k.first i)
  pub geometries : OfArgumentTwo s rec nodes i (λ at. GeometriesAre at g)
  pub options : OfTrees s g.end (k.count - 2) (OptionsAre d read)

module _ {d : ℕ} {s : List ℕ} {nodes : List Lent} {rec i : ℕ} {k : Called} {g : Geometries} {read : Option KnnOptions}
    (w : Walked d s nodes rec i k g read)
    {records : List Record} {name : List ℕ} {ts : Exprs} (over : CallOver s rec k records name ts) where
  pair : Pair s rec k.first k.count records g ts
  pair = call-pair w.noded w.enough g w.geometries ts over

  knn-asks : match_leaf_by d records (call name ts) ≡ match_request records (asked read pair.a pair.b)
  knn-asks = knn-leaf d records name ts (named over true (ascii "st_knn") w.same)
      ∙ ap (match_request records) (ap (knn_request_by d) pair.is ∙ w.options _ pair.more pair.rest pair.a pair.b)

  pub knn-unread : read ≡ None → CallMatchingBy d is_knn s (Err Unmatched) records name ts
  unfolding match_request
  knn-unread e = knn-asks ∙ ap (λ (o : Option KnnOptions). match_request records (asked o pair.a pair.b)) e

  module _ (options : KnnOptions) (e : read ≡ Some options) where
    abbrev n : ℕ
    n = options.k

    abbrev spheroid : ℕ
    spheroid = flag options.flags.use_spheroid

    abbrev ties : ℕ
    ties = ties_number options.flags.include_tie_breakers

    knn-match : (o : Option Order) → g.order ≡ o → match_leaf_by d records (call name ts)
        ≡ match_knn n spheroid ties (on_child records pair.a) (on_child records pair.b) (order o)
    unfolding match_request
    knn-match o f = knn-asks ∙ ap (λ (o : Option KnnOptions). match_request records (asked o pair.a pair.b)) e
        ∙ ap (match_knn n spheroid ties (on_child records pair.a) (on_child records pair.b))
        (sym pair.lie ∙ ap order f)

    pub knn-neither : g.order ≡ None → CallMatchingBy d is_knn s (Err Unmatched) records name ts
    unfolding match_knn
    knn-neither f = knn-match None f

    -- The first geometry's side is the probe side.
    knn-matched : (side : JoinSide)
        → match_leaf_by d records (call name ts)
        ≡ some (knn n spheroid (join_side side) ties (on_child records pair.a) (on_child records pair.b))
        → ((e : Expr) → (bound_on records (join_side side) e ≡ on_child records e)
        × (bound_on records (negate (join_side side)) e ≡ on_child records e))
        → CallMatchingBy d is_knn s (Ok (knn_at k.first g options side)) records name ts
    unfolding is_knn
    knn-matched side m on =
        record {
          q = knn n spheroid (join_side side) ties (on_child records pair.a) (on_child records pair.b);
          is = m;
          passes = refl;
          stands = record {
            l = pair.a;
            r = pair.b;
            left = pair.first;
            right = pair.second;
            is = rw (
              (on pair.a).0,
              (on
                  pair.b).1,
            );
          };
        }

    pub knn-left : g.order ≡ Some LeftRight → CallMatchingBy d is_knn s (Ok (knn_at k.first g options Left)) records name ts
    unfolding match_knn bound_on negate
    knn-left f = knn-matched Left (knn-match (Some LeftRight) f) (λ e. (refl, refl))

    pub knn-right : g.order ≡ Some RightLeft
        → CallMatchingBy d is_knn s (Ok (knn_at k.first g options Right)) records name ts
    unfolding match_knn bound_on negate
    knn-right f = knn-matched Right (knn-match (Some RightLeft) f) (λ e. (refl, refl))
