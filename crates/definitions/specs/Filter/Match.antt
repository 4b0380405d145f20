-- What an AND-leaf asks for, the sides of its arguments, and whether it matches.
use Rattle.std.specs.Prelude.{ℕ, Bool, false, ◌&&◌, List, [], ◌∷◌, map, if◌then◌else◌}
use Rattle.std.proofs.Math.Option.{Option, none, some}
use Rattle.definitions.specs.Words.Basics.{given◌then◌else◌, ascii, same_name, all}
use Rattle.definitions.specs.Words.Expression.{Side, left, right, no_side, Relation, Expr, Exprs, nil, cons, function_of, binary_of, literal_of, Record, Predicate, relation, distance, knn, invert}
use Rattle.definitions.specs.Words.Literals.{number_u32, only_k, number_bool}
use Rattle.definitions.specs.Words.Leaves.{relation_named, Comparison, compares, no_comparison, comparison, distance_arguments}
use Rattle.definitions.specs.Words.References.{columns_of, record_at, same_side, map_columns}

-- ---- what a leaf asks for, before its columns are looked at

-- A relation of two geometries, a distance of two geometries and a bound, a KNN of a query and an object, or nothing.
pub data Request : Type 0 where
  ask_relation : Relation → (first second : Expr) → Request
  ask_distance : (form : ℕ) → (first second bound : Expr) → Request
  ask_knn : (k spheroid ties : ℕ) → (query object : Expr) → Request
  ask_nothing : Request

-- A relation takes its first two arguments.
unfoldable pub relation_request : Option Relation → Exprs → Request
relation_request none arguments = ask_nothing
relation_request (some type) nil = ask_nothing
relation_request (some type) (cons a nil) = ask_nothing
relation_request (some type) (cons a (cons b more)) = ask_relation type a b

-- `st_dwithin` takes its first three arguments; its form is 0.
unfoldable pub dwithin_request : Exprs → Request
dwithin_request nil = ask_nothing
dwithin_request (cons a nil) = ask_nothing
dwithin_request (cons a (cons b nil)) = ask_nothing
dwithin_request (cons a (cons b (cons bound more))) = ask_distance 0 a b bound

-- A literal that is a whole number from 0 to 4,294,967,295.
unfoldable pub literal_u32 : Expr → Option ℕ
literal_u32 e = given literal_of e then (λ v. number_u32 v.type v.bytes) else none

-- A literal that is a k; one of 0 is none (request 5).
unfoldable pub literal_k : Expr → Option ℕ
literal_k e = given literal_u32 e then only_k else none

-- A literal that is Boolean.
unfoldable pub literal_bool : Expr → Option ℕ
literal_bool e = given literal_of e then (λ v. number_bool v.type v.bytes) else none

-- KNN needs k and both flags.
unfoldable pub knn_literals : (k spheroid ties : Option ℕ) → (query object : Expr) → Request
knn_literals none spheroid ties a b = ask_nothing
knn_literals (some k) none ties a b = ask_nothing
knn_literals (some k) (some spheroid) none a b = ask_nothing
knn_literals (some k) (some spheroid) (some ties) a b = ask_knn k spheroid ties a b

-- `st_knn` has two to five arguments; k is the default (request 13; 01's is 1), spheroid false (0) and ties absent (2) where they are
-- missing.
unfoldable pub knn_request_by : (default_k : ℕ) → Exprs → Request
knn_request_by d nil = ask_nothing
knn_request_by d (cons a nil) = ask_nothing
knn_request_by d (cons a (cons b nil)) = ask_knn d 0 2 a b
knn_request_by d (cons a (cons b (cons k nil))) = knn_literals (literal_k k) (some 0) (some 2) a b
knn_request_by d (cons a (cons b (cons k (cons s nil)))) = knn_literals (literal_k k) (literal_bool s) (some 2) a b
knn_request_by d (cons a (cons b (cons k (cons s (cons t nil))))) = knn_literals (literal_k k) (literal_bool s) (literal_bool t) a b
knn_request_by d (cons a (cons b (cons k (cons s (cons t (cons x more)))))) = ask_nothing

-- 01's, with k 1.
abbrev pub knn_request : Exprs → Request
knn_request = knn_request_by 1

-- A function asks by its name.
unfoldable pub call_request_by : (default_k : ℕ) → (name : List ℕ) → Exprs → Request
call_request_by d name arguments =
    if same_name name (ascii "st_knn") then knn_request_by d arguments else
    if same_name name (ascii "st_dwithin") then dwithin_request arguments else
    relation_request (relation_named name) arguments

-- 01's, with k 1.
abbrev pub call_request : (name : List ℕ) → Exprs → Request
call_request = call_request_by 1

-- A comparison takes the first two arguments of `st_distance`.
unfoldable pub distance_request : (form : ℕ) → (bound : Expr) → Option Exprs → Request
distance_request form bound none = ask_nothing
distance_request form bound (some nil) = ask_nothing
distance_request form bound (some (cons a nil)) = ask_nothing
distance_request form bound (some (cons a (cons b more))) = ask_distance form a b bound

-- The form of a comparison is its operator's number.
unfoldable pub comparison_request : (form : ℕ) → Comparison → Request
comparison_request form no_comparison = ask_nothing
comparison_request form (compares measured bound) = distance_request form bound (distance_arguments measured)

-- What a leaf asks for.
unfoldable pub request_by : (default_k : ℕ) → Expr → Request
request_by d e =
    given function_of e then (λ f. call_request_by d f.name f.arguments) else
    given binary_of e then (λ b. comparison_request b.operator (comparison b.operator b.l b.r)) else
    ask_nothing

-- 01's, with k 1.
abbrev pub request : Expr → Request
request = request_by 1

-- ---- sides

-- An argument's side: none if it has no column, that of all its columns, or undefined since they differ.
pub data ArgumentSide : Type 0 where
  no_columns : ArgumentSide
  all_on : Side → ArgumentSide
  mixed : ArgumentSide

-- The side of columns that have these sides; that of mark columns is `all_on no_side`.
unfoldable pub common_side : (columns : List Side) → ArgumentSide
common_side [] = no_columns
common_side (s ∷ ss) = if all (same_side s) ss then all_on s else mixed

-- An argument's side.
unfoldable pub side_of : List Record → (argument : Expr) → ArgumentSide
side_of records e = common_side (map (λ index. (record_at records index).side) (columns_of e))

-- How two geometries lie: the first left and the second right, the other way round, or neither.
pub data Order : Type 0 where
  left_right right_left no_order : Order

-- Whether an argument has columns, all on this side.
unfoldable pub is_side : Side → ArgumentSide → Bool
is_side s no_columns = false
is_side s (all_on t) = same_side s t
is_side s mixed = false

-- The order of two geometries by their sides.
unfoldable pub order_of : ArgumentSide → ArgumentSide → Order
order_of a b =
    if is_side left a && is_side right b then left_right else
    if is_side right a && is_side left b then right_left else
    no_order

-- ---- matching

-- Columns become their record's child index.
unfoldable pub on_child : List Record → Expr → Expr
on_child records e = map_columns (λ index. (record_at records index).child) e

-- The left geometry is stored first, the type inverted where that exchanges the arguments.
unfoldable pub match_relation : Relation → (first second : Expr) → Order → Option Predicate
match_relation type a b left_right = some (relation type a b)
match_relation type a b right_left = some (relation (invert type) b a)
match_relation type a b no_order = none

-- The left geometry is stored first.
unfoldable pub store_distance : (form : ℕ) → Side → (first second bound : Expr) → Order → Option Predicate
store_distance form side a b bound left_right = some (distance form side a b bound)
store_distance form side a b bound right_left = some (distance form side b a bound)
store_distance form side a b bound no_order = none

-- A distance with at least one column needs side left or right (request 8); one without columns has side none and is copied.
unfoldable pub match_distance : List Record → (form : ℕ) → (first second bound : Expr) → ArgumentSide → Order → Option Predicate
match_distance records form a b bound no_columns order = store_distance form no_side a b bound order
match_distance records form a b bound (all_on left) order = store_distance form left a b (on_child records bound) order
match_distance records form a b bound (all_on right) order = store_distance form right a b (on_child records bound) order
match_distance records form a b bound (all_on no_side) order = none
match_distance records form a b bound mixed order = none

-- KNN stores its first argument first, with its side as probe side.
unfoldable pub match_knn : (k spheroid ties : ℕ) → (query object : Expr) → Order → Option Predicate
match_knn k spheroid ties a b left_right = some (knn k spheroid left ties a b)
match_knn k spheroid ties a b right_left = some (knn k spheroid right ties a b)
match_knn k spheroid ties a b no_order = none

-- The predicate of a request, if the sides of its arguments let it match.
unfoldable pub match_request : List Record → Request → Option Predicate
match_request records (ask_relation type a b) =
    match_relation type (on_child records a) (on_child records b) (order_of (side_of records a) (side_of records b))
match_request records (ask_distance form a b bound) =
    match_distance records form (on_child records a) (on_child records b) bound (side_of records bound)
    (order_of (side_of records a) (side_of records b))
match_request records (ask_knn k spheroid ties a b) =
    match_knn k spheroid ties (on_child records a) (on_child records b) (order_of (side_of records a) (side_of records b))
match_request records ask_nothing = none

-- The predicate of a leaf that matches.
unfoldable pub match_leaf_by : (default_k : ℕ) → List Record → (leaf : Expr) → Option Predicate
match_leaf_by d records leaf = match_request records (request_by d leaf)

-- 01's, with k 1.
abbrev pub match_leaf : List Record → (leaf : Expr) → Option Predicate
match_leaf = match_leaf_by 1
