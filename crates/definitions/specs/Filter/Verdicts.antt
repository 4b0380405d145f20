-- Why each AND-leaf of a frame can be indexed or cannot: a verdict each. (Ours, beyond document 02.)
use Rattle.std.specs.Prelude.{ℕ, zero, suc, ◌+◌, ◌*◌, Bool, true, false, ◌&&◌, ◌||◌, not, List, [], ◌∷◌, map, length, leb, ltb, eqb, ℤ, pos, negsuc, if◌then◌else◌}
use Rattle.std.proofs.Math.Option
use Rattle.std.proofs.Math.Option.{Option, none, some}
use Rattle.definitions.specs.Words.Basics.{given◌then◌else◌, ascii, same_name, any}
use Rattle.definitions.specs.Words.Expression.{Side, left, right, no_side, Expr, column, literal, and, binary, call, other, field, Exprs, nil, cons, Record, Frame, function_of, binary_of, literal_of}
use Rattle.definitions.specs.Words.Literals.{signed}
use Rattle.definitions.specs.Words.Leaves.{leaves, relation_named, Comparison, compares, no_comparison, comparison, distance_arguments}
use Rattle.definitions.specs.Words.References.{columns_of, record_at, same_side}
use Rattle.definitions.specs.Filter.Match.{literal_bool, common_side, is_side}
use Rattle.definitions.specs.Filter.Settings.{Settings, has_bit}
use Rattle.definitions.specs.Filter.Names.{lower_case, function_name}

-- ---- the verdicts

-- An AND-leaf matches, as relation, distance or KNN; or it does not, and this is the first reason why, in the order of `reasons`.
pub data Verdict : Type 0 where
  as_relation as_distance as_knn : Verdict
  other_case other_side other_operator inside_another nothing_of_ours : Verdict
  kind_left_out too_few_arguments too_many_arguments : Verdict
  first_without_columns first_of_both first_with_mark : Verdict
  second_without_columns second_of_both second_with_mark : Verdict
  both_left both_right : Verdict
  bound_of_both bound_with_mark : Verdict
  k_no_number k_below_one k_above_greatest spheroid_no_flag ties_no_flag : Verdict

-- The byte of a verdict: a match has the first byte of its extraction, a reason is above them; the first digit is the reason's subject.
unfoldable pub verdict_byte : Verdict → ℕ
verdict_byte as_relation = 0x11
verdict_byte as_distance = 0x12
verdict_byte as_knn = 0x13
verdict_byte other_case = 0x20
verdict_byte other_side = 0x21
verdict_byte other_operator = 0x22
verdict_byte inside_another = 0x23
verdict_byte nothing_of_ours = 0x24
verdict_byte kind_left_out = 0x30
verdict_byte too_few_arguments = 0x40
verdict_byte too_many_arguments = 0x41
verdict_byte first_without_columns = 0x50
verdict_byte first_of_both = 0x51
verdict_byte first_with_mark = 0x52
verdict_byte second_without_columns = 0x53
verdict_byte second_of_both = 0x54
verdict_byte second_with_mark = 0x55
verdict_byte both_left = 0x56
verdict_byte both_right = 0x57
verdict_byte bound_of_both = 0x60
verdict_byte bound_with_mark = 0x61
verdict_byte k_no_number = 0x70
verdict_byte k_below_one = 0x71
verdict_byte k_above_greatest = 0x72
verdict_byte spheroid_no_flag = 0x73
verdict_byte ties_no_flag = 0x74

-- The reasons in their order, which is that of their bytes: what the leaf is, the settings, then the arguments from left to right.
unfoldable pub reasons : List Verdict
reasons =
    other_case ∷ other_side ∷ other_operator ∷ inside_another ∷ nothing_of_ours ∷
    kind_left_out ∷ too_few_arguments ∷ too_many_arguments ∷
    first_without_columns ∷ first_of_both ∷ first_with_mark ∷
    second_without_columns ∷ second_of_both ∷ second_with_mark ∷ both_left ∷ both_right ∷
    bound_of_both ∷ bound_with_mark ∷ k_no_number ∷ k_below_one ∷ k_above_greatest ∷ spheroid_no_flag ∷ ties_no_flag ∷ []

-- ---- what a leaf is by its name

-- The line of the price list that a leaf is meant for, by its name alone: relation, distance, KNN, or none.
pub data PriceLine : Type 0 where
  relation_line distance_line knn_line no_line : PriceLine

-- The line of a function's name; names are compared byte by byte.
unfoldable pub line_named : (name : List ℕ) → PriceLine
line_named name =
    if same_name name (ascii "st_knn") then knn_line else
    if same_name name (ascii "st_dwithin") then distance_line else
    given relation_named name then (λ type. relation_line) else no_line

-- A comparison is meant for a distance where the side that is looked at is an `st_distance` call.
unfoldable pub line_compared : Comparison → PriceLine
line_compared no_comparison = no_line
line_compared (compares measured bound) = given distance_arguments measured then (λ arguments. distance_line) else no_line

-- The line that a leaf is meant for.
unfoldable pub line_meant : Expr → PriceLine
line_meant leaf =
    given function_of leaf then (λ f. line_named f.name) else
    given binary_of leaf then (λ b. line_compared (comparison b.operator b.l b.r)) else
    no_line

-- Whether it is no line.
unfoldable pub is_no_line : PriceLine → Bool
is_no_line relation_line = false
is_no_line distance_line = false
is_no_line knn_line = false
is_no_line no_line = true

-- Whether it is that of distances.
unfoldable pub is_distance_line : PriceLine → Bool
is_distance_line relation_line = false
is_distance_line distance_line = true
is_distance_line knn_line = false
is_distance_line no_line = false

-- Whether it is that of KNN.
unfoldable pub is_knn_line : PriceLine → Bool
is_knn_line relation_line = false
is_knn_line distance_line = false
is_knn_line knn_line = true
is_knn_line no_line = false

-- ---- its arguments

-- The first two arguments of `st_distance`, and the bound after them as `st_dwithin` has it.
unfoldable pub with_bound : (bound : Expr) → Exprs → Exprs
with_bound bound nil = cons bound nil
with_bound bound (cons a nil) = cons a (cons bound nil)
with_bound bound (cons a (cons b more)) = cons a (cons b (cons bound nil))

-- The arguments of a comparison.
unfoldable pub arguments_compared : Comparison → Exprs
arguments_compared no_comparison = nil
arguments_compared (compares measured bound) = given distance_arguments measured then with_bound bound else nil

-- The arguments of a leaf: two geometries first, then a bound, or k and the flags.
unfoldable pub arguments_of : Expr → Exprs
arguments_of leaf =
    given function_of leaf then (λ f. f.arguments) else
    given binary_of leaf then (λ b. arguments_compared (comparison b.operator b.l b.r)) else
    nil

-- Whether there is an argument at a place, from 0, and it passes the test.
unfoldable pub argument_is : (place : ℕ) → (Expr → Bool) → Exprs → Bool
argument_is place test nil = false
argument_is zero test (cons e es) = test e
argument_is (suc place) test (cons e es) = argument_is place test es

-- Whether there is an argument at a place.
unfoldable pub has_argument : (place : ℕ) → Exprs → Bool
has_argument place arguments = argument_is place (λ e. true) arguments

-- ---- a leaf that is meant for no line

-- Whether an expression is an `st_distance` call, letter case aside.
unfoldable pub is_distance_call : Expr → Bool
is_distance_call e = same_name (function_name e) (ascii "st_distance")

-- A comparison that looks at `st_distance`, letter case aside.
unfoldable pub measured_in_small : Comparison → Bool
measured_in_small no_comparison = false
measured_in_small (compares measured bound) = is_distance_call measured

-- A leaf that is meant for a line once its letters are made small.
unfoldable pub ours_in_small : Expr → Bool
ours_in_small leaf =
    given function_of leaf then (λ f. not (is_no_line (line_named (lower_case f.name)))) else
    given binary_of leaf then (λ b. measured_in_small (comparison b.operator b.l b.r)) else
    false

-- A comparison with `st_distance` on the side that is not looked at: right of < and <=, left of > and >=.
unfoldable pub measured_other_side : Comparison → Bool
measured_other_side no_comparison = false
measured_other_side (compares measured bound) = is_distance_call bound

-- `st_distance` on either side of an operator other than these four.
unfoldable pub measured_beside : (l r : Expr) → Comparison → Bool
measured_beside l r no_comparison = is_distance_call l || is_distance_call r
measured_beside l r (compares measured bound) = false

-- A leaf with `st_distance` on the side that is not looked at.
unfoldable pub distance_on_other_side : Expr → Bool
distance_on_other_side leaf =
    given binary_of leaf then (λ b. measured_other_side (comparison b.operator b.l b.r)) else
    false

-- A leaf with `st_distance` beside another operator.
unfoldable pub distance_beside_other : Expr → Bool
distance_beside_other leaf =
    given binary_of leaf then (λ b. measured_beside b.l b.r (comparison b.operator b.l b.r)) else
    false

-- What stands directly below a leaf. (An And is none.)
unfoldable pub parts_of : Expr → Exprs
parts_of (column index tag) = nil
parts_of (literal type bytes) = nil
parts_of (and l r) = nil
parts_of (binary operator l r) = cons l (cons r nil)
parts_of (call name arguments) = arguments
parts_of (other tag children) = children
parts_of (field bits tag) = nil

-- Whether one of several expressions would be meant for a line, letter case aside.
unfoldable pub some_of_ours : Exprs → Bool
some_of_ours nil = false
some_of_ours (cons e es) = ours_in_small e || some_of_ours es

-- ---- geometries and bounds

-- The sides of an expression's columns.
unfoldable pub sides_of : List Record → Expr → List Side
sides_of records e = map (λ index. (record_at records index).side) (columns_of e)

-- No columns.
unfoldable pub none_of : List Side → Bool
none_of [] = true
none_of (s ∷ ss) = false

-- Columns of both children.
unfoldable pub of_both : List Side → Bool
of_both ss = any (same_side left) ss && any (same_side right) ss

-- A mark column.
unfoldable pub of_mark : List Side → Bool
of_mark ss = any (same_side no_side) ss

-- Columns, and all of this child.
unfoldable pub only_of : Side → List Side → Bool
only_of side ss = is_side side (common_side ss)

-- ---- k and the flags

-- The whole number of an Int32 or Int64 with its sign, or of a UInt32 or UInt64.
unfoldable pub whole_number : (type bytes : ℕ) → Option ℤ
whole_number type bytes =
    if eqb type 2 || eqb type 3 then some (signed bytes) else
    if eqb type 4 || eqb type 5 then some (pos bytes) else
    none

-- The whole number of a literal.
unfoldable pub literal_whole : Expr → Option ℤ
literal_whole e = given literal_of e then (λ v. whole_number v.type v.bytes) else none

-- No whole-number literal.
unfoldable pub no_number : Expr → Bool
no_number e = given literal_whole e then (λ z. false) else true

-- A whole number below 1.
unfoldable pub is_below_one : ℤ → Bool
is_below_one (pos n) = ltb n 1
is_below_one (negsuc n) = true

-- A whole number above the greatest k.
unfoldable pub is_above : (greatest : ℕ) → ℤ → Bool
is_above greatest (pos n) = ltb greatest n
is_above greatest (negsuc n) = false

-- A literal with a whole number below 1.
unfoldable pub below_one : Expr → Bool
below_one e = given literal_whole e then is_below_one else false

-- A literal with a whole number above the greatest k.
unfoldable pub above : (greatest : ℕ) → Expr → Bool
above greatest e = given literal_whole e then is_above greatest else false

-- No Boolean literal.
unfoldable pub no_flag : Expr → Bool
no_flag e = given literal_bool e then (λ flag. false) else true

-- ---- which reasons apply

-- A kind that the settings leave out.
unfoldable pub left_out : Settings → PriceLine → Bool
left_out S relation_line = not (has_bit 0 S.kinds)
left_out S distance_line = not (has_bit 1 S.kinds)
left_out S knn_line = not (has_bit 2 S.kinds)
left_out S no_line = false

-- An argument that it needs is missing: a geometry, or the bound of a distance. (Of loaded frames only a KNN's: the others get 8.)
unfoldable pub lacks : PriceLine → Exprs → Bool
lacks relation_line arguments = not (has_argument 1 arguments)
lacks distance_line arguments = not (has_argument 2 arguments)
lacks knn_line arguments = not (has_argument 1 arguments)
lacks no_line arguments = false

-- The geometry at a place, 0 or 1, of a leaf that is meant for a line has columns of which this test holds.
unfoldable pub geometry_is : List Record → PriceLine → Exprs → (place : ℕ) → (List Side → Bool) → Bool
geometry_is records line arguments place test = not (is_no_line line) && argument_is place (λ e. test (sides_of records e)) arguments

-- The bound of a distance has columns of which this test holds.
unfoldable pub bound_is : List Record → PriceLine → Exprs → (List Side → Bool) → Bool
bound_is records line arguments test = is_distance_line line && argument_is 2 (λ e. test (sides_of records e)) arguments

-- The literal at a place of a KNN, k at 2 and the flags at 3 and 4, is one of which this test holds.
unfoldable pub knn_literal_is : PriceLine → Exprs → (place : ℕ) → (Expr → Bool) → Bool
knn_literal_is line arguments place test = is_knn_line line && argument_is place test arguments

-- Whether a reason applies to a leaf that is meant for a line and has these arguments, whatever other reasons do. (A match is no reason.)
unfoldable pub applies_by : Settings → List Record → (leaf : Expr) → PriceLine → (arguments : Exprs) → (reason : Verdict) → Bool
applies_by S records leaf line arguments as_relation = false
applies_by S records leaf line arguments as_distance = false
applies_by S records leaf line arguments as_knn = false
-- It is meant for no line: but it would be in small letters,
applies_by S records leaf line arguments other_case = is_no_line line && ours_in_small leaf
-- or if `st_distance` stood on the side that is looked at,
applies_by S records leaf line arguments other_side = is_no_line line && distance_on_other_side leaf
-- or beside <, <=, > or >=,
applies_by S records leaf line arguments other_operator = is_no_line line && distance_beside_other leaf
-- or it is an OR, a NOT or another expression with a leaf that would be directly below it,
applies_by S records leaf line arguments inside_another = is_no_line line && some_of_ours (parts_of leaf)
-- or whatever else.
applies_by S records leaf line arguments nothing_of_ours = is_no_line line
-- The settings leave its kind out.
applies_by S records leaf line arguments kind_left_out = left_out S line
-- It has too few arguments, or as a KNN a sixth.
applies_by S records leaf line arguments too_few_arguments = lacks line arguments
applies_by S records leaf line arguments too_many_arguments = is_knn_line line && has_argument 5 arguments
-- Its first geometry has no column, or columns of both children, or a mark column;
applies_by S records leaf line arguments first_without_columns = geometry_is records line arguments 0 none_of
applies_by S records leaf line arguments first_of_both = geometry_is records line arguments 0 of_both
applies_by S records leaf line arguments first_with_mark = geometry_is records line arguments 0 of_mark
-- its second;
applies_by S records leaf line arguments second_without_columns = geometry_is records line arguments 1 none_of
applies_by S records leaf line arguments second_of_both = geometry_is records line arguments 1 of_both
applies_by S records leaf line arguments second_with_mark = geometry_is records line arguments 1 of_mark
-- or both are of one and the same child.
applies_by S records leaf line arguments both_left =
    geometry_is records line arguments 0 (only_of left) && geometry_is records line arguments 1 (only_of left)
applies_by S records leaf line arguments both_right =
    geometry_is records line arguments 0 (only_of right) && geometry_is records line arguments 1 (only_of right)
-- Its bound has columns of both children, or a mark column.
applies_by S records leaf line arguments bound_of_both = bound_is records line arguments of_both
applies_by S records leaf line arguments bound_with_mark = bound_is records line arguments of_mark
-- Its k is no whole-number literal, or below 1, or above the greatest; a flag is no Boolean literal.
applies_by S records leaf line arguments k_no_number = knn_literal_is line arguments 2 no_number
applies_by S records leaf line arguments k_below_one = knn_literal_is line arguments 2 below_one
applies_by S records leaf line arguments k_above_greatest = knn_literal_is line arguments 2 (above S.greatest_k)
applies_by S records leaf line arguments spheroid_no_flag = knn_literal_is line arguments 3 no_flag
applies_by S records leaf line arguments ties_no_flag = knn_literal_is line arguments 4 no_flag

-- Whether a reason applies to a leaf.
unfoldable pub applies : Settings → List Record → (leaf : Expr) → (reason : Verdict) → Bool
applies S records leaf = applies_by S records leaf (line_meant leaf) (arguments_of leaf)

-- ---- the verdict

-- The first verdict of a list that passes the test, else the one given.
unfoldable pub first_that : (Verdict → Bool) → (otherwise : Verdict) → List Verdict → Verdict
first_that test otherwise [] = otherwise
first_that test otherwise (v ∷ vs) = if test v then v else first_that test otherwise vs

-- What a leaf that is meant for a line matches as.
unfoldable pub matches_as : PriceLine → Verdict
matches_as relation_line = as_relation
matches_as distance_line = as_distance
matches_as knn_line = as_knn
matches_as no_line = nothing_of_ours

-- The verdict of a leaf: the first reason that applies; if none does, it matches as what it is meant for.
unfoldable pub verdict_under : Settings → List Record → (leaf : Expr) → Verdict
verdict_under S records leaf = first_that (applies S records leaf) (matches_as (line_meant leaf)) reasons

-- The verdict of each AND-leaf of a frame, in order.
unfoldable pub verdicts_under : Settings → Frame → List Verdict
verdicts_under S F = map (verdict_under S F.records) (leaves F.expr)

-- Their bytes.
unfoldable pub verdict_bytes : Settings → Frame → List ℕ
verdict_bytes S F = map verdict_byte (verdicts_under S F)

-- ---- read off the bytes

-- The taken leaf: its position, and the line that it is on.
pub record TakenLeaf : Type 0 where
  pub position : ℕ
  pub line : ℕ

-- One found among all but the first verdict, counted from the first.
unfoldable pub one_on : TakenLeaf → TakenLeaf
one_on t = record { position = suc t.position; line = t.line }

-- The first byte that passes the test.
unfoldable pub first_passing : (ℕ → Bool) → List ℕ → Option TakenLeaf
first_passing test [] = none
first_passing test (b ∷ bs) = if test b then some (record { position = 0; line = b }) else Option.map one_on (first_passing test bs)

-- The first KNN match, `13`; failing that the first match, any byte up to it.
unfoldable pub named_by : List ℕ → Option TakenLeaf
named_by bytes = Option.or_else (first_passing (λ b. eqb b 0x13) bytes) (first_passing (λ b. leb b 0x13) bytes)

-- The line and the position in two bytes as one number, as a plan starts with them; 0 without a match.
unfoldable pub bill_number : Option TakenLeaf → ℕ
bill_number none = 0
bill_number (some t) = t.line * 65536 + t.position

-- The answer, five bytes as one number: line and position, then the number of verdicts in two bytes.
unfoldable pub explained : List ℕ → ℕ
explained bytes = bill_number (named_by bytes) * 65536 + length bytes

-- ---- exchange

-- The verdict of a leaf whose children are exchanged.
unfoldable pub exchange_verdict : Verdict → Verdict
exchange_verdict v = if eqb (verdict_byte v) 0x56 then both_right else if eqb (verdict_byte v) 0x57 then both_left else v
