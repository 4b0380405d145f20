-- The stages give the first reason of the table, since its order is theirs.
use Rattle.std.specs.Prelude.{if◌then◌else◌}
use mathlib.Core.Path.{◌≡◌, refl}
use mathlib.Core.Bool.{Bool, true, false, not}
use mathlib.Core.List.{List}
use Rattle.definitions.specs.Words.Expression.{Expr, Exprs, nil, cons, Record}
use Rattle.definitions.specs.Filter.Settings.{Settings, has_bit}
use Rattle.definitions.specs.Filter.Verdicts.{Verdict, kind_left_out, too_few_arguments, too_many_arguments, reasons, PriceLine, relation_line, distance_line, knn_line, no_line, line_meant, arguments_of, applies_by, applies, first_that, matches_as, verdict_under}
use Rattle.theorems.proofs.VerdictMatches.{reading}
use Rattle.leaf_verdicts.specs.Stages.{geometry_verdict, bound_verdict, k_verdict, flag_verdict, relation_stage, distance_stage, ties_stage, flags_stage, options_stage, knn_stage, no_stage, stage}

if-not : (b : Bool) (u v : Verdict) → (if not b then u else v) ≡ (if b then v else u)
if-not true u v = refl
if-not false u v = refl

module _ (S : Settings) (records : List Record) (leaf : Expr) where
  staged : (line : PriceLine) (es : Exprs)
      → first_that (applies_by S records leaf line es) (matches_as line) reasons ≡ stage S records leaf line es
  unfolding reading first_that matches_as
      stage no_stage relation_stage distance_stage knn_stage options_stage flags_stage ties_stage
      geometry_verdict bound_verdict k_verdict flag_verdict
  staged no_line es = refl
  staged relation_line nil = if-not (has_bit 0 S.kinds) kind_left_out too_few_arguments
  staged relation_line (cons a nil) = if-not (has_bit 0 S.kinds) kind_left_out too_few_arguments
  staged relation_line (cons a (cons b more)) = if-not (has_bit 0 S.kinds) kind_left_out _
  staged distance_line nil = if-not (has_bit 1 S.kinds) kind_left_out too_few_arguments
  staged distance_line (cons a nil) = if-not (has_bit 1 S.kinds) kind_left_out too_few_arguments
  staged distance_line (cons a (cons b nil)) = if-not (has_bit 1 S.kinds) kind_left_out too_few_arguments
  staged distance_line (cons a (cons b (cons d more))) = if-not (has_bit 1 S.kinds) kind_left_out _
  staged knn_line nil = if-not (has_bit 2 S.kinds) kind_left_out too_few_arguments
  staged knn_line (cons a nil) = if-not (has_bit 2 S.kinds) kind_left_out too_few_arguments
  staged knn_line (cons a (cons b nil)) = if-not (has_bit 2 S.kinds) kind_left_out _
  staged knn_line (cons a (cons b (cons k nil))) = if-not (has_bit 2 S.kinds) kind_left_out _
  staged knn_line (cons a (cons b (cons k (cons s nil)))) = if-not (has_bit 2 S.kinds) kind_left_out _
  staged knn_line (cons a (cons b (cons k (cons s (cons t nil))))) = if-not (has_bit 2 S.kinds) kind_left_out _
  staged knn_line (cons a (cons b (cons k (cons s (cons t (cons x more)))))) = if-not (has_bit 2 S.kinds) kind_left_out too_many_arguments

  pub verdict-staged : verdict_under S records leaf ≡ stage S records leaf (line_meant leaf) (arguments_of leaf)
  unfolding verdict_under applies
  verdict-staged = staged (line_meant leaf) (arguments_of leaf)
