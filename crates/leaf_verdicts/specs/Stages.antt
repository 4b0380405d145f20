-- The verdict of a leaf in stages, one argument after the other: the form in which the code comes to it. (Ours; `Staged` proves it.)
use Rattle.std.specs.Prelude.{ℕ, ◌&&◌, ◌||◌, List, if◌then◌else◌}
use Rattle.definitions.specs.Words.Expression.{Side, left, right, Expr, Exprs, nil, cons, Record}
use Rattle.definitions.specs.Filter.Settings.{Settings, has_bit}
use Rattle.definitions.specs.Filter.Verdicts.{Verdict, has_argument, as_relation, as_distance, as_knn, other_case, other_side, other_operator, inside_another, nothing_of_ours, kind_left_out, too_few_arguments, too_many_arguments, first_without_columns, first_of_both, first_with_mark, second_without_columns, second_of_both, second_with_mark, both_left, both_right, bound_of_both, bound_with_mark, k_no_number, k_below_one, k_above_greatest, spheroid_no_flag, ties_no_flag, PriceLine, relation_line, distance_line, knn_line, no_line, ours_in_small, distance_on_other_side, distance_beside_other, parts_of, some_of_ours, is_distance_call, sides_of, none_of, of_both, of_mark, only_of, no_number, below_one, above, no_flag}

-- Two geometries by the sides of their columns; if they are fine, what comes after them.
unfoldable pub geometry_verdict : (a b : List Side) → (after : Verdict) → Verdict
geometry_verdict a b after =
    if none_of a then first_without_columns else
    if of_both a then first_of_both else
    if of_mark a then first_with_mark else
    if none_of b then second_without_columns else
    if of_both b then second_of_both else
    if of_mark b then second_with_mark else
    if only_of left a && only_of left b then both_left else
    if only_of right a && only_of right b then both_right else
    after

-- A bound.
unfoldable pub bound_verdict : List Side → Verdict
bound_verdict d = if of_both d then bound_of_both else if of_mark d then bound_with_mark else as_distance

-- k, and what comes after it.
unfoldable pub k_verdict : (greatest : ℕ) → Expr → (after : Verdict) → Verdict
k_verdict greatest k after =
    if no_number k then k_no_number else if below_one k then k_below_one else if above greatest k then k_above_greatest else after

-- A flag.
unfoldable pub flag_verdict : (why : Verdict) → Expr → (after : Verdict) → Verdict
flag_verdict why flag after = if no_flag flag then why else after

-- A relation, a distance and a KNN by their arguments, where the settings allow the kind.
unfoldable pub relation_stage : List Record → Exprs → Verdict
relation_stage records nil = too_few_arguments
relation_stage records (cons a nil) = too_few_arguments
relation_stage records (cons a (cons b more)) = geometry_verdict (sides_of records a) (sides_of records b) as_relation

unfoldable pub distance_stage : List Record → Exprs → Verdict
distance_stage records nil = too_few_arguments
distance_stage records (cons a nil) = too_few_arguments
distance_stage records (cons a (cons b nil)) = too_few_arguments
distance_stage records (cons a (cons b (cons d more))) =
    geometry_verdict (sides_of records a) (sides_of records b) (bound_verdict (sides_of records d))

-- The flags after k, and what stands after the geometries of a KNN.
unfoldable pub ties_stage : Exprs → Verdict
ties_stage nil = as_knn
ties_stage (cons t more) = flag_verdict ties_no_flag t as_knn

unfoldable pub flags_stage : Exprs → Verdict
flags_stage nil = as_knn
flags_stage (cons s more) = flag_verdict spheroid_no_flag s (ties_stage more)

unfoldable pub options_stage : (greatest : ℕ) → Exprs → Verdict
options_stage greatest nil = as_knn
options_stage greatest (cons k more) = k_verdict greatest k (flags_stage more)

unfoldable pub knn_stage : (greatest : ℕ) → List Record → Exprs → Verdict
knn_stage greatest records nil = too_few_arguments
knn_stage greatest records (cons a nil) = too_few_arguments
knn_stage greatest records (cons a (cons b more)) =
    if has_argument 3 more then too_many_arguments else
    geometry_verdict (sides_of records a) (sides_of records b) (options_stage greatest more)

-- One that is meant for no line, by what stands directly below it; a comparison with these sides; another operator.
unfoldable pub inside_stage : Exprs → Verdict
inside_stage es = if some_of_ours es then inside_another else nothing_of_ours

unfoldable pub other_stage : (measured bound : Expr) → Exprs → Verdict
other_stage measured bound es =
    if is_distance_call measured then other_case else if is_distance_call bound then other_side else inside_stage es

unfoldable pub operator_stage : (l r : Expr) → Verdict
operator_stage l r = if is_distance_call l || is_distance_call r then other_operator else inside_stage (cons l (cons r nil))

-- Any of them.
unfoldable pub no_stage : Expr → Verdict
no_stage leaf =
    if ours_in_small leaf then other_case else
    if distance_on_other_side leaf then other_side else
    if distance_beside_other leaf then other_operator else
    if some_of_ours (parts_of leaf) then inside_another else
    nothing_of_ours

-- A leaf by its line.
unfoldable pub stage : Settings → List Record → (leaf : Expr) → PriceLine → Exprs → Verdict
stage S records leaf relation_line es = if has_bit 0 S.kinds then relation_stage records es else kind_left_out
stage S records leaf distance_line es = if has_bit 1 S.kinds then distance_stage records es else kind_left_out
stage S records leaf knn_line es = if has_bit 2 S.kinds then knn_stage S.greatest_k records es else kind_left_out
stage S records leaf no_line es = no_stage leaf
