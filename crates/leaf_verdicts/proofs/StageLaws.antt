-- The stage that a leaf comes to, by what its node is.
mod Staged
use Rattle.std.specs.Prelude.{if◌then◌else◌}
use Prim.Native.Nat.{ℕ}
use mathlib.Core.Path.{◌≡◌, refl, sym, ap, ◌∙◌}
use mathlib.Core.Bool.{Bool, true, false, not}
use mathlib.Core.List.{List}
use mathlib.Core.Option.{none, some}
use Rattle.definitions.specs.Words.Expression.{Expr, binary, call, Exprs, nil, cons, Record}
use Rattle.definitions.specs.Words.Leaves.{Comparison, comparison, compares, no_comparison, distance_arguments}
use Rattle.definitions.specs.Filter.Names.{lower_case}
use Rattle.definitions.specs.Filter.Settings.{Settings, has_bit}
use Rattle.definitions.specs.Filter.Verdicts.{Verdict, other_case, other_side, other_operator, kind_left_out, PriceLine, relation_line, distance_line, knn_line, no_line, line_named, line_compared, line_meant, is_no_line, with_bound, arguments_compared, arguments_of, measured_in_small, ours_in_small, measured_other_side, measured_beside, distance_on_other_side, distance_beside_other, parts_of, left_out, verdict_under}
use Rattle.expression.specs.Nodes.{children_of}
use Rattle.expression.specs.Leaves.{PlainNode, plain_column, plain_literal, plain_other, plain_field}
use Rattle.filter_tree.specs.Spines.{is_leaf}
use Rattle.leaf_verdicts.specs.Stages.{relation_stage, distance_stage, knn_stage, inside_stage, other_stage, operator_stage, no_stage, stage}
use Rattle.leaf_verdicts.proofs.StageLaws.Staged.{verdict-staged}

-- ---- by the settings

-- The stage of a line that the settings allow.
unfoldable pub kept : Settings → List Record → (leaf : Expr) → PriceLine → Exprs → Verdict
kept S records leaf relation_line es = relation_stage records es
kept S records leaf distance_line es = distance_stage records es
kept S records leaf knn_line es = knn_stage S.greatest_k records es
kept S records leaf no_line es = no_stage leaf

by-bit : (b out : Bool) (v : Verdict) → not b ≡ out → (if b then v else kind_left_out) ≡ (if out then kind_left_out else v)
by-bit true out v e = rw (← e) refl
by-bit false out v e = rw (← e) refl

module _ (S : Settings) (records : List Record) (leaf : Expr) (es : Exprs) where
  by-settings : (line : PriceLine) (out : Bool) → left_out S line ≡ out
      → stage S records leaf line es ≡ (if out then kind_left_out else kept S records leaf line es)
  unfolding left_out stage kept
  by-settings relation_line out e = by-bit (has_bit 0 S.kinds) out _ e
  by-settings distance_line out e = by-bit (has_bit 1 S.kinds) out _ e
  by-settings knn_line out e = by-bit (has_bit 2 S.kinds) out _ e
  by-settings no_line out e = rw (← e) refl

-- ---- a function

pub call-told : (S : Settings) (records : List Record) (name : List ℕ) (ts : Exprs) (line : PriceLine) → line ≡ line_named name
    → (out : Bool) → left_out S line ≡ out
    → verdict_under S records (call name ts) ≡ (if out then kind_left_out else kept S records (call name ts) line ts)
unfolding line_meant arguments_of
call-told S records name ts line e out is = verdict-staged S records (call name ts)
    ∙ ap (λ (line : PriceLine). stage S records (call name ts) line ts) (sym e)
    ∙ by-settings S records (call name ts) ts line out is

pub call-unmeant : (name : List ℕ) (ts : Exprs)
    → no_stage (call name ts) ≡ (if not (is_no_line (line_named (lower_case name))) then other_case else inside_stage ts)
unfolding no_stage inside_stage ours_in_small distance_on_other_side distance_beside_other parts_of
call-unmeant name ts = refl

-- ---- an operator

module _ (S : Settings) (records : List Record) (operator : ℕ) (l r : Expr) where
  by-comparison : (k : Comparison) → comparison operator l r ≡ k
      → verdict_under S records (binary operator l r)
      ≡ stage S records (binary operator l r) (line_compared k) (arguments_compared k)
  unfolding line_meant arguments_of
  by-comparison k e = verdict-staged S records (binary operator l r)
      ∙ ap (λ (k : Comparison). stage S records (binary operator l r) (line_compared k) (arguments_compared k)) e

  -- The definitions' stage of one that is meant for no line.
  unmeant : (k : Comparison) → comparison operator l r ≡ k
      → no_stage (binary operator l r)
      ≡ (if measured_in_small k then other_case else
      if measured_other_side k then other_side else
      if measured_beside l r k then other_operator else
      inside_stage (cons l (cons r nil)))
  unfolding no_stage inside_stage ours_in_small distance_on_other_side distance_beside_other parts_of
  unmeant k e = rw e refl

  pub operator-told : comparison operator l r ≡ no_comparison → verdict_under S records (binary operator l r) ≡ operator_stage l r
  unfolding stage line_compared operator_stage measured_in_small measured_other_side measured_beside
  operator-told e = by-comparison no_comparison e ∙ unmeant no_comparison e

  module _ {m b : Expr} (e : comparison operator l r ≡ compares m b) where
    pub other-told : distance_arguments m ≡ none → verdict_under S records (binary operator l r) ≡ other_stage m b (cons l (cons r nil))
    unfolding stage line_compared other_stage measured_in_small measured_other_side measured_beside
    other-told d = by-comparison (compares m b) e ∙ rw d (unmeant (compares m b) e)

    pub distance-told : (all : Exprs) → distance_arguments m ≡ some all → (out : Bool) → left_out S distance_line ≡ out
        → verdict_under S records (binary operator l r) ≡ (if out then kind_left_out else distance_stage records (with_bound b all))
    unfolding line_compared arguments_compared kept
    distance-told all d out is = by-comparison (compares m b) e
        ∙ rw d (by-settings S records (binary operator l r) (with_bound b all) distance_line out is)

-- ---- other nodes

pub plain-is-leaf : {t : Expr} → PlainNode t → is_leaf t ≡ true
unfolding is_leaf
plain-is-leaf plain_column = refl
plain-is-leaf plain_literal = refl
plain-is-leaf plain_other = refl
plain-is-leaf plain_field = refl

module _ (S : Settings) (records : List Record) where
  pub plain-told : {t : Expr} → PlainNode t → verdict_under S records t ≡ inside_stage (children_of t)
  unfolding line_meant stage no_stage inside_stage ours_in_small distance_on_other_side distance_beside_other parts_of children_of
  plain-told {t} plain_column = verdict-staged S records t
  plain-told {t} plain_literal = verdict-staged S records t
  plain-told {t} plain_other = verdict-staged S records t
  plain-told {t} plain_field = verdict-staged S records t
