-- The definitions' cases of verdicts and lines.
use Rattle.std.specs.Prelude.{◌≡◌, true, false, List, Option, Some, None}
use Rattle.definitions.specs.Words.Expression.{Expr, Record}
use Rattle.definitions.specs.Filter.Settings.{Settings}
use Rattle.definitions.specs.Filter.Verdicts as definitions
use Rattle.definitions.specs.Filter.Verdicts.{as_relation, as_distance, as_knn, other_case, other_side, other_operator, inside_another, nothing_of_ours, kind_left_out, too_few_arguments, too_many_arguments, first_without_columns, first_of_both, first_with_mark, second_without_columns, second_of_both, second_with_mark, both_left, both_right, bound_of_both, bound_with_mark, k_no_number, k_below_one, k_above_greatest, spheroid_no_flag, ties_no_flag, relation_line, distance_line, knn_line, no_line}
use Rattle.filter_tree.specs.Spines.{is_leaf}
use Rattle.leaf_verdicts.specs.declared.lines.PriceLine.{PriceLine}
use Rattle.leaf_verdicts.specs.declared.lines.PriceLine.TheVariants as line
use Rattle.leaf_verdicts.specs.declared.verdict.Verdict.{Verdict}
use Rattle.leaf_verdicts.specs.declared.verdict.Verdict.TheVariants as verdict

abbrev pub verdict_of : Verdict → definitions.Verdict
verdict_of verdict.AsRelation = as_relation
verdict_of verdict.AsDistance = as_distance
verdict_of verdict.AsKnn = as_knn
verdict_of verdict.OtherCase = other_case
verdict_of verdict.OtherSide = other_side
verdict_of verdict.OtherOperator = other_operator
verdict_of verdict.InsideAnother = inside_another
verdict_of verdict.NothingOfOurs = nothing_of_ours
verdict_of verdict.KindLeftOut = kind_left_out
verdict_of verdict.TooFewArguments = too_few_arguments
verdict_of verdict.TooManyArguments = too_many_arguments
verdict_of verdict.FirstWithoutColumns = first_without_columns
verdict_of verdict.FirstOfBoth = first_of_both
verdict_of verdict.FirstWithMark = first_with_mark
verdict_of verdict.SecondWithoutColumns = second_without_columns
verdict_of verdict.SecondOfBoth = second_of_both
verdict_of verdict.SecondWithMark = second_with_mark
verdict_of verdict.BothLeft = both_left
verdict_of verdict.BothRight = both_right
verdict_of verdict.BoundOfBoth = bound_of_both
verdict_of verdict.BoundWithMark = bound_with_mark
verdict_of verdict.KNoNumber = k_no_number
verdict_of verdict.KBelowOne = k_below_one
verdict_of verdict.KAboveGreatest = k_above_greatest
verdict_of verdict.SpheroidNoFlag = spheroid_no_flag
verdict_of verdict.TiesNoFlag = ties_no_flag

abbrev pub line_of : PriceLine → definitions.PriceLine
line_of line.Relation = relation_line
line_of line.Distance = distance_line
line_of line.Knn = knn_line
line_of line.None = no_line

-- An AND-leaf has its verdict, an And has none.
abbrev pub LeafTold : Settings → Option Verdict → (records : List Record) → Expr → Type 0
LeafTold S (Some r) records t = (is_leaf t ≡ true) × (verdict_of r ≡ definitions.verdict_under S records t)
LeafTold S None records t = is_leaf t ≡ false
