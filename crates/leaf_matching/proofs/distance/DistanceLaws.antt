-- What each return of `match_distance_predicate` answers, and what its calls require.
use Rattle.std.specs.Prelude.{Some, None, Ok, Err}
use Prim.Native.Nat.{ℕ, ◌+◌}
use native.Mathlib.Omega.{arith}
use mathlib.Core.Path.{◌≡◌, refl, sym, ap, ap₂, ◌∙◌}
use mathlib.Core.Bool.{false}
use mathlib.Core.List.{List}
use mathlib.Core.Option as optional
use mathlib.Core.Option.{none, some}
use lib.ListN.{length}
use Rattle.definitions.specs.Words.Expression.{Expr, Record, Predicate, distance}
use Rattle.sedona_query_planner.specs.Predicates.{bound_on, on_children, ArgumentAt}
use Rattle.definitions.specs.Bytes.Encode.{expr_bytes}
use Rattle.definitions.specs.Bytes.Decode.{index_below}
use Rattle.definitions.specs.Filter.Match as definition
use Rattle.definitions.specs.Filter.Match.{request, side_of, order_of, on_child, store_distance, match_distance, match_request, match_leaf, match_leaf_by}
use Rattle.expression.specs.Nodes.{OfTreeIn}
use Rattle.sedona_expr.specs.Parsed as parsed
use Rattle.sedona_expr.specs.declared.utils.ParsedDistancePredicate.{ParsedDistancePredicate}
use Rattle.node_table.specs.declared.NodeRecord.{NodeRecord as Lent}
use Rattle.filter_tree.specs.Trees.{OfNode, Indexed}
use Rattle.filter_tree.proofs.Indexes.{index-spans}
use Rattle.leaf_matching.specs.Frames as frames
use Rattle.leaf_matching.specs.Frames.{Over, Framed, Argued, OfArgument}
use Rattle.terms.specs.Forms.{form_number}
use Rattle.terms.specs.Sides.{join_side}
use Rattle.leaf_matching.specs.Sides.{argument_side}
use Rattle.leaf_matching.specs.Distances.{distance_side}
use Rattle.leaf_matching.specs.Matches.{is_distance, Lacks, LeafMatching}
use Rattle.terms.specs.declared.sides.JoinSide.{JoinSide}
use Rattle.terms.specs.declared.sides.JoinSide.TheVariants as lies
use Rattle.leaf_matching.specs.declared.sides.Sides.{Sides}
use Rattle.leaf_matching.specs.declared.sides.Sides.TheVariants.{NoColumns, AllOn, Mixed}
use Rattle.sedona_query_planner.specs.declared.spatial_predicate.SpatialPredicate.{SpatialPredicate}
use Rattle.sedona_query_planner.specs.declared.spatial_predicate.SpatialPredicate.TheVariants.{Distance}
use Rattle.leaf_matching.specs.declared.matching.NoMatch.TheVariants.{Unmatched}
use Rattle.leaf_matching.proofs.Asked.{Kind, request-lacks}

-- ---- a leaf that is no distance

distance-kind : Kind is_distance parsed.is_distance
unfolding is_distance parsed.is_distance
distance-kind =
    record { of_relation = λ _ _ _ _ _ _. refl; of_distance = λ _ _ _ _ _ _ _ _. refl; of_knn = λ _ _ _ _ _ _ _ _. refl }

pub no_distance : (records : List Record) (t : Expr) → parsed.is_distance (request t) ≡ false → Lacks is_distance (match_leaf records t)
unfolding match_leaf_by
no_distance records t e = request-lacks is_distance records parsed.is_distance distance-kind (request t) e

-- ---- the side of its bound

module _ (records : List Record) (form : ℕ) (a b bound : Expr) where
  -- A side that is known is stored.
  abbrev stores : (side : JoinSide) → definition.Order → optional.Option Predicate
  stores side o = store_distance form (join_side side) a b (bound_on records (join_side side) bound) o

  side-match : (z : Sides) (o : definition.Order) (side : JoinSide) → Some side ≡ distance_side z
      → match_distance records form a b bound (argument_side z) o ≡ stores side o
  unfolding match_distance bound_on
  side-match NoColumns o side e = let same : lies.None ≡ side = cc in ap (λ (x : JoinSide). stores x o) same
  side-match (AllOn lies.Left) o side e = let same : lies.Left ≡ side = cc in ap (λ (x : JoinSide). stores x o) same
  side-match (AllOn lies.Right) o side e = let same : lies.Right ≡ side = cc in ap (λ (x : JoinSide). stores x o) same
  side-match (AllOn lies.None) o side e = let z : ◌≡◌ {A = ℕ} 0 1 = cc in absurd (omega arith)
  side-match Mixed o side e = let z : ◌≡◌ {A = ℕ} 0 1 = cc in absurd (omega arith)

  -- Without one there is no match.
  undefined-match : (z : Sides) (o : definition.Order) → None ≡ distance_side z
      → match_distance records form a b bound (argument_side z) o ≡ none
  unfolding match_distance
  undefined-match NoColumns o e = let z : ◌≡◌ {A = ℕ} 0 1 = cc in absurd (omega arith)
  undefined-match (AllOn lies.Left) o e = let z : ◌≡◌ {A = ℕ} 0 1 = cc in absurd (omega arith)
  undefined-match (AllOn lies.Right) o e = let z : ◌≡◌ {A = ℕ} 0 1 = cc in absurd (omega arith)
  undefined-match (AllOn lies.None) o e = refl
  undefined-match Mixed o e = refl

-- ---- its arguments

-- What was parsed is what the leaf asks for.
abbrev pub Parses : (s : List ℕ) → List Lent → (at : ℕ) → ParsedDistancePredicate → Type 0
Parses s nodes at p = OfTreeIn s at (λ c t. parsed.Distance c s nodes p (request t))

-- They have indexes.
module _ {s : List ℕ} {nodes : List Lent} {rec at : ℕ} {p : ParsedDistancePredicate} (asked : Parses s nodes at p) where
  argument-of : {i : ℕ} {records : List Record} {t e : Expr} → Over s rec at records t → Indexed (index_below (length records)) s nodes i e
      → frames.ArgumentAt s rec nodes i records e
  argument-of over h = record { at = h.at; over = record { entries = over.entries; tree = h.stands }; noded = h.noded }

  module _ {records : List Record} {t : Expr} (over : Over s rec at records t) where
    abbrev pub asks : parsed.Distance (index_below (length records)) s nodes p (request t)
    asks = asked _ t over.tree

    pub arg0-at : frames.ArgumentAt s rec nodes p.arg0 records asks.a
    arg0-at = argument-of over asks.arg0

    pub arg1-at : frames.ArgumentAt s rec nodes p.arg1 records asks.b
    arg1-at = argument-of over asks.arg1

    pub distance-at : frames.ArgumentAt s rec nodes p.distance records asks.bound
    distance-at = argument-of over asks.distance

  module _ (framed : Framed s rec at) where
    pub arg0-argued : Argued s rec nodes p.arg0
    arg0-argued = (framed.0, _, arg0-at framed.2)

    pub arg1-argued : Argued s rec nodes p.arg1
    arg1-argued = (framed.0, _, arg1-at framed.2)

    pub distance-argued : Argued s rec nodes p.distance
    distance-argued = (framed.0, _, distance-at framed.2)

-- The side of the argument of an index.
abbrev pub SideAt : (s : List ℕ) (rec : ℕ) (nodes : List Lent) (i : ℕ) → Sides → Type 0
SideAt s rec nodes i x = OfArgument s rec nodes i (λ records t. argument_side x ≡ side_of records t)

-- Where the node of an index starts and ends.
abbrev Between : (nodes : List Lent) (i start end : ℕ) → Type 0
Between nodes i start end = OfNode nodes i (λ at t. start ≡ at) × OfNode nodes i (λ at t. end ≡ at + length (expr_bytes t))

-- What is known once the arguments are read.
pub record Walked (s : List ℕ) (nodes : List Lent) (rec at : ℕ) (p : ParsedDistancePredicate) (x y d : Sides) : Type 0 where
  pub asked : Parses s nodes at p
  pub first : SideAt s rec nodes p.arg0 x
  pub second : SideAt s rec nodes p.arg1 y
  pub limit : SideAt s rec nodes p.distance d

module _ {s : List ℕ} {nodes : List Lent} {rec at : ℕ} {p : ParsedDistancePredicate} {x y d : Sides} (w : Walked s nodes rec at p x y d)
    {records : List Record} {t : Expr} (over : Over s rec at records t) where
  abbrev it : parsed.Distance (index_below (length records)) s nodes p (request t)
  it = asks w.asked over

  spans : {i q end : ℕ} {e : Expr} → Indexed (index_below (length records)) s nodes i e → Between nodes i q end
      → ArgumentAt (on_children records) s q end e
  spans h is = let it = index-spans h is.0 is.1 in record { stands = it.stands; ends = it.ends }

  side-d : side_of records it.bound ≡ argument_side d
  side-d = sym (w.limit records it.bound (distance-at w.asked over))

  side-x : side_of records it.a ≡ argument_side x
  side-x = sym (w.first records it.a (arg0-at w.asked over))

  side-y : side_of records it.b ≡ argument_side y
  side-y = sym (w.second records it.b (arg1-at w.asked over))

  distance-match : match_leaf records t
      ≡ match_distance records (form_number p.form) (on_child records it.a) (on_child records it.b) it.bound (argument_side d)
      (order_of (argument_side x) (argument_side y))
  unfolding match_leaf_by match_request
  distance-match = ap (match_request records) it.is
      ∙ ap₂ (match_distance records (form_number p.form) (on_child records it.a) (on_child records it.b) it.bound)
      side-d (ap₂ order_of side-x side-y)

  pub distance-undefined : None ≡ distance_side d → LeafMatching is_distance s (Err Unmatched) records t
  distance-undefined k = distance-match ∙ undefined-match _ _ _ _ _ d _ k

  module _ {side : JoinSide} (known : Some side ≡ distance_side d) where
    known-match : {how : definition.Order} → how ≡ order_of (argument_side x) (argument_side y) → match_leaf records t
        ≡ store_distance (form_number p.form) (join_side side) (on_child records it.a) (on_child records it.b)
        (bound_on records (join_side side) it.bound) how
    known-match lie = distance-match ∙ side-match _ _ _ _ _ d _ side known
        ∙ ap (store_distance (form_number p.form) (join_side side) (on_child records it.a) (on_child records it.b)
        (bound_on records (join_side side) it.bound)) (sym lie)

    pub distance-neither : definition.no_order ≡ order_of (argument_side x) (argument_side y)
        → LeafMatching is_distance s (Err Unmatched) records t
    unfolding store_distance
    distance-neither lie = known-match lie

    -- Two geometries in their places, and the bound.
    abbrev distance_from : (left left_end right right_end limit limit_end : ℕ) → SpatialPredicate
    distance_from left left_end right right_end limit limit_end = Distance (record {
      left = left;
      left_end = left_end;
      right = right;
      right_end = right_end;
      distance = limit;
      distance_end = limit_end;
      distance_side = side;
      form = form_number p.form;
    })

    module _ {left left_end right right_end limit limit_end : ℕ} (far : Between nodes p.distance limit limit_end) where
      -- The geometries that are stored have these indexes.
      stored : {i j : ℕ} {l r : Expr} → Indexed (index_below (length records)) s nodes i l
          → Indexed (index_below (length records)) s nodes j r
          → Between nodes i left left_end → Between nodes j right right_end
          → match_leaf records t
          ≡ some (distance (form_number p.form) (join_side side) (on_child records l) (on_child records r)
          (bound_on records (join_side side) it.bound))
          → LeafMatching is_distance s (Ok (distance_from left left_end right right_end limit limit_end)) records t
      unfolding is_distance bound_on
      stored {l = l} {r = r} a b one two m = record {
        q = distance (form_number p.form) (join_side side) (on_child records l) (on_child records r)
            (bound_on records (join_side side) it.bound);
        is = m;
        passes = refl;
        stands =
            record { l = l; r = r; bound = it.bound; left = spans a one; right = spans b two; limit = spans it.distance far; is = refl };
      }

      pub distance-left : Between nodes p.arg0 left left_end → Between nodes p.arg1 right right_end
          → definition.left_right ≡ order_of (argument_side x) (argument_side y)
          → LeafMatching is_distance s (Ok (distance_from left left_end right right_end limit limit_end)) records t
      unfolding store_distance
      distance-left one two lie = stored it.arg0 it.arg1 one two (known-match lie)

      pub distance-right : Between nodes p.arg1 left left_end → Between nodes p.arg0 right right_end
          → definition.right_left ≡ order_of (argument_side x) (argument_side y)
          → LeafMatching is_distance s (Ok (distance_from left left_end right right_end limit limit_end)) records t
      unfolding store_distance
      distance-right one two lie = stored it.arg1 it.arg0 one two (known-match lie)
