-- A leaf asks the same of an exchanged frame, and each side it is asked by is the other one: so its match is exchanged.
use Rattle.std.specs.Prelude.{if◌then◌else◌}
use Prim.Native.Nat.{ℕ}
use mathlib.Core.Path.{◌≡◌, refl, ap, ap₂, ◌∙◌, fun_ext}
use mathlib.Core.Bool.{Bool, true, false, ◌&&◌}
use mathlib.Core.List.{List, [], ◌∷◌, map}
use mathlib.Core.Option
use mathlib.Core.Option.{Option}
use Rattle.definitions.specs.Words.Basics.{all}
use Rattle.definitions.specs.Words.Expression.{Side, left, right, no_side, Relation, Expr, Record, Predicate}
use Rattle.definitions.specs.Words.References.{record_at, map_columns, columns_of, same_side}
use Rattle.definitions.specs.Filter.Match.{Order, left_right, right_left, no_order, Request, ask_relation, ask_distance, ask_knn, ask_nothing, on_child, ArgumentSide, no_columns, all_on, mixed, common_side, side_of, is_side, order_of, match_relation, store_distance, match_distance, match_knn, match_request, match_leaf_by, request_by}
use Rattle.definitions.specs.Filter.Exchange.{negate, exchange_predicate}
use Rattle.theorems.proofs.Exchange.{invert-invert, swapped, child-at, side-at, same-negated}

-- ---- columns and sides

on-child : (rs : List Record) (e : Expr) → on_child (swapped rs) e ≡ on_child rs e
unfolding on_child
on-child rs e = ap (λ (f : ℕ → ℕ). map_columns f e) (fun_ext (child-at rs))

all-negated : (s : Side) (ss : List Side) → all (same_side (negate s)) (map negate ss) ≡ all (same_side s) ss
unfolding all
all-negated s [] = refl
all-negated s (t ∷ ss) = ap₂ ◌&&◌ (same-negated s t) (all-negated s ss)

-- An argument's side after an exchange.
abbrev pub turned : ArgumentSide → ArgumentSide
turned no_columns = no_columns
turned (all_on s) = all_on (negate s)
turned mixed = mixed

if-turned : (b : Bool) (s : Side) → (if b then all_on (negate s) else mixed) ≡ turned (if b then all_on s else mixed)
if-turned true s = refl
if-turned false s = refl

pub common-negated : (ss : List Side) → common_side (map negate ss) ≡ turned (common_side ss)
unfolding common_side
common-negated [] = refl
common-negated (s ∷ ss) =
    ap (λ (b : Bool). if b then all_on (negate s) else mixed) (all-negated s ss) ∙ if-turned (all (same_side s) ss) s

pub sides-at : (rs : List Record) (is : List ℕ)
    → map (λ i. (record_at (swapped rs) i).side) is ≡ map negate (map (λ i. (record_at rs i).side) is)
sides-at rs [] = refl
sides-at rs (i ∷ is) = ap₂ (λ (a : Side) (b : List Side). a ∷ b) (side-at rs i) (sides-at rs is)

side-of : (rs : List Record) (e : Expr) → side_of (swapped rs) e ≡ turned (side_of rs e)
unfolding side_of
side-of rs e = ap common_side (sides-at rs (columns_of e)) ∙ common-negated (map (λ i. (record_at rs i).side) (columns_of e))

-- ---- matches of an exchanged frame

flip : Order → Order
flip left_right = right_left
flip right_left = left_right
flip no_order = no_order

order-negated : (a b : ArgumentSide) → order_of (turned a) (turned b) ≡ flip (order_of a b)
unfolding order_of flip negate is_side same_side
order-negated no_columns b = refl
order-negated mixed b = refl
order-negated (all_on left) no_columns = refl
order-negated (all_on left) (all_on left) = refl
order-negated (all_on left) (all_on right) = refl
order-negated (all_on left) (all_on no_side) = refl
order-negated (all_on left) mixed = refl
order-negated (all_on right) no_columns = refl
order-negated (all_on right) (all_on left) = refl
order-negated (all_on right) (all_on right) = refl
order-negated (all_on right) (all_on no_side) = refl
order-negated (all_on right) mixed = refl
order-negated (all_on no_side) b = refl

-- A predicate of the exchanged frame is the exchanged predicate.
abbrev exchanged : Option Predicate → Option Predicate
exchanged = Option.map exchange_predicate

relation-flipped : (t : Relation) (a b : Expr) (o : Order) → match_relation t a b (flip o) ≡ exchanged (match_relation t a b o)
unfolding match_relation flip exchange_predicate
relation-flipped t a b left_right = refl
relation-flipped t a b right_left = rw invert-invert
relation-flipped t a b no_order = refl

stored-flipped : (form : ℕ) (side : Side) (a b bound : Expr) (o : Order)
    → store_distance form (negate side) a b bound (flip o) ≡ exchanged (store_distance form side a b bound o)
unfolding store_distance flip exchange_predicate
stored-flipped form side a b bound left_right = refl
stored-flipped form side a b bound right_left = refl
stored-flipped form side a b bound no_order = refl

distance-flipped : (rs : List Record) (form : ℕ) (a b bound : Expr) (s : ArgumentSide) (o : Order)
    → match_distance (swapped rs) form a b bound (turned s) (flip o) ≡ exchanged (match_distance rs form a b bound s o)
unfolding match_distance negate
distance-flipped rs form a b bound no_columns o = stored-flipped form no_side a b bound o
distance-flipped rs form a b bound (all_on left) o = rw on-child (stored-flipped form left a b (on_child rs bound) o)
distance-flipped rs form a b bound (all_on right) o = rw on-child (stored-flipped form right a b (on_child rs bound) o)
distance-flipped rs form a b bound (all_on no_side) o = refl
distance-flipped rs form a b bound mixed o = refl

knn-flipped : (k spheroid ties : ℕ) (a b : Expr) (o : Order)
    → match_knn k spheroid ties a b (flip o) ≡ exchanged (match_knn k spheroid ties a b o)
unfolding match_knn flip exchange_predicate negate
knn-flipped k spheroid ties a b left_right = refl
knn-flipped k spheroid ties a b right_left = refl
knn-flipped k spheroid ties a b no_order = refl

order-swapped : (rs : List Record) (a b : Expr)
    → order_of (side_of (swapped rs) a) (side_of (swapped rs) b) ≡ flip (order_of (side_of rs a) (side_of rs b))
order-swapped rs a b = ap₂ order_of (side-of rs a) (side-of rs b) ∙ order-negated (side_of rs a) (side_of rs b)

request-swapped : (rs : List Record) (q : Request) → match_request (swapped rs) q ≡ exchanged (match_request rs q)
unfolding match_request
request-swapped rs (ask_relation t a b) = rw (on-child rs a, on-child rs b, order-swapped rs a b) (relation-flipped t _ _ _)
request-swapped rs (ask_distance form a b bound) =
    rw (on-child rs a, on-child rs b, order-swapped rs a b, side-of rs bound)
    (distance-flipped rs form (on_child rs a) (on_child rs b) bound (side_of rs bound) (order_of (side_of rs a) (side_of rs b)))
request-swapped rs (ask_knn k spheroid ties a b) =
    rw (on-child rs a, on-child rs b, order-swapped rs a b) (knn-flipped k spheroid ties _ _ _)
request-swapped rs ask_nothing = refl

-- Over exchanged records the match of a leaf is the exchanged match.
pub match-turns : (default : ℕ) (rs : List Record) (e : Expr)
    → match_leaf_by default (swapped rs) e ≡ exchanged (match_leaf_by default rs e)
unfolding match_leaf_by
match-turns default rs e = request-swapped rs (request_by default e)
