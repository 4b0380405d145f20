-- What each return of `match_relation_predicate` answers.
use Rattle.std.specs.Prelude.{Option, Some, None, Ok, Err}
use Prim.Native.Nat.{ℕ, ◌≤◌, ◌<◌}
use native.Mathlib.Omega.{arith}
use mathlib.Core.Path.{◌≡◌, refl, sym, ap, ◌∙◌}
use mathlib.Core.Bool.{Bool, true, false}
use mathlib.Core.List.{List}
use mathlib.Core.Option.{none, some, none-ne-some}
use Rattle.definitions.specs.Words.Basics.{ascii, same_name, any}
use Rattle.definitions.specs.Words.Expression.{relations, call, Exprs, nil, cons, count, Record, relation, invert}
use Rattle.definitions.specs.Words.Expression as definition
use Rattle.definitions.specs.Words.Leaves.{type_named, relation_named}
use Rattle.definitions.specs.Filter.Match.{relation_request, call_request_by, request_by, ask_nothing, on_child, match_relation, match_request, match_leaf, match_leaf_by}
use Rattle.sedona_query_planner.specs.Predicates.{bound_on}
use Rattle.theorems.proofs.Requests.{same-name}
use Rattle.expression.specs.Places.{part}
use Rattle.expression.specs.declared.leaves.Called.{Called}
use Rattle.sedona_query_planner.specs.Relations.{relation_of}
use Rattle.sedona_query_planner.specs.declared.spatial_predicate.SpatialRelationType.{SpatialRelationType}
use Rattle.expression.specs.Leaves.{OfCall}
use Rattle.node_table.specs.declared.NodeRecord.{NodeRecord as Lent}
use Rattle.filter_tree.specs.Trees.{NodedAll}
use Rattle.leaf_matching.specs.Frames.{OfArgumentTwo, CallOver}
use Rattle.leaf_matching.specs.Sides.{order, GeometriesAre}
use Rattle.leaf_matching.specs.Matches.{is_relation, Lacks, CallMatching}
use Rattle.leaf_matching.specs.declared.sides.Geometries.{Geometries}
use Rattle.leaf_matching.specs.declared.sides.Order.{Order}
use Rattle.leaf_matching.specs.declared.sides.Order.TheVariants.{LeftRight, RightLeft}
use Rattle.sedona_query_planner.specs.declared.spatial_predicate.SpatialPredicate.{SpatialPredicate}
use Rattle.sedona_query_planner.specs.declared.spatial_predicate.SpatialPredicate.TheVariants.{Relation}
use Rattle.leaf_matching.specs.declared.matching.NoMatch.TheVariants.{Unmatched}
use Rattle.leaf_matching.proofs.Asked.{none-lacks}
use Rattle.leaf_matching.proofs.MatchLaws.{Pair, call-pair}

-- ---- a function with a relation name

-- Such a name is none that has no relation.
not-this : (name other : List ℕ) {type : definition.Relation} → relation_named name ≡ some type → relation_named other ≡ none
    → (b : Bool) → same_name name other ≡ b → b ≡ false
not-this name other e n true same = absurd (none-ne-some _ (sym n ∙ ap relation_named (sym (same-name name other same)) ∙ e))
not-this name other e n false same = refl

module _ (records : List Record) (name : List ℕ) (ts : Exprs) {type : definition.Relation} (e : relation_named name ≡ some type) where
  relation-leaf : match_leaf records (call name ts) ≡ match_request records (relation_request (some type) ts)
  unfolding match_leaf_by request_by call_request_by relation_named type_named relations any same_name ascii
  relation-leaf =
      rw (
        not-this name (ascii "st_knn") e refl (same_name name (ascii "st_knn")) refl,
        not-this name (ascii "st_dwithin") e refl (same_name name (ascii "st_dwithin")) refl,
        e,
      )

  too_few : (ts : Exprs) → count ts < 2 → relation_request (some type) ts ≡ ask_nothing
  unfolding relation_request count
  too_few nil h = refl
  too_few (cons a nil) h = refl
  too_few (cons a (cons b ts)) h = absurd (omega arith)

  pub few-lacks : count ts < 2 → Lacks is_relation (match_leaf records (call name ts))
  unfolding match_request
  few-lacks h = none-lacks is_relation _ (relation-leaf ∙ ap (match_request records) (too_few ts h))

-- The predicate of two arguments that stand at places.
abbrev relation_at : (left left_end right right_end : ℕ) → SpatialRelationType → SpatialPredicate
relation_at left left_end right right_end type = Relation (record {
  left = left;
  left_end = left_end;
  right = right;
  right_end = right_end;
  relation_type = type;
})

-- What is known once the geometries are read.
pub record Walked (s : List ℕ) (nodes : List Lent) (rec i : ℕ) (k : Called) (g : Geometries) (type : SpatialRelationType) : Type 0 where
  pub named : relation_named (part s k.name k.end) ≡ some (relation_of type)
  pub enough : 2 ≤ k.count
  pub noded : OfCall s k (λ c name. NodedAll nodes k.first i)
  pub geometries : OfArgumentTwo s rec nodes i (λ at. GeometriesAre at g)

module _ {s : List ℕ} {nodes : List Lent} {rec i : ℕ} {k : Called} {g : Geometries} {type : SpatialRelationType}
    (w : Walked s nodes rec i k g type)
    {records : List Record} {name : List ℕ} {ts : Exprs} (over : CallOver s rec k records name ts) where
  pair : Pair s rec k.first k.count records g ts
  pair = call-pair w.noded w.enough g w.geometries ts over

  relation-match : (o : Option Order) → g.order ≡ o
      → match_leaf records (call name ts) ≡ match_relation (relation_of type) (on_child records pair.a) (on_child records pair.b) (order o)
  unfolding match_request relation_request
  relation-match o f = relation-leaf records name ts (ap relation_named (sym over.stands.spelling) ∙ w.named)
      ∙ ap (λ (ts : Exprs). match_request records (relation_request (some (relation_of type)) ts)) pair.is
      ∙ ap (match_relation (relation_of type) (on_child records pair.a) (on_child records pair.b)) (sym pair.lie ∙ ap order f)

  pub relation-neither : g.order ≡ None → CallMatching is_relation s (Err Unmatched) records name ts
  unfolding match_relation
  relation-neither f = relation-match None f

  pub relation-left : g.order ≡ Some LeftRight
      → CallMatching is_relation s (Ok (relation_at k.first g.second g.second g.end type)) records name ts
  unfolding match_relation is_relation bound_on
  relation-left f =
      record {
        q = relation (relation_of type) (on_child records pair.a) (on_child records pair.b);
        is = relation-match (Some LeftRight) f;
        passes = refl;
        stands = record { l = pair.a; r = pair.b; left = pair.first; right = pair.second; is = refl };
      }

  pub relation-right : (inverse : SpatialRelationType) → relation_of inverse ≡ invert (relation_of type) → g.order ≡ Some RightLeft
      → CallMatching is_relation s (Ok (relation_at g.second g.end k.first g.second inverse)) records name ts
  unfolding match_relation is_relation bound_on
  relation-right inverse i f =
      record {
        q = relation (invert (relation_of type)) (on_child records pair.b) (on_child records pair.a);
        is = relation-match (Some RightLeft) f;
        passes = refl;
        stands = record {
          l = pair.b;
          r = pair.a;
          left = pair.second;
          right = pair.first;
          is = ap (λ (t : definition.Relation). relation t (on_child records pair.b) (on_child records pair.a)) (sym i);
        };
      }
