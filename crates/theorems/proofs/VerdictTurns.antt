-- Exchange turns each side over, and only two reasons name a side: so the verdicts are the same, but for these two, exchanged.
use Rattle.std.specs.Prelude.{if◌then◌else◌}
use Prim.Native.Nat.{ℕ, zero, suc}
use mathlib.Core.Path.{◌≡◌, refl, sym, ap, ap₂, ◌∙◌}
use mathlib.Core.Bool.{Bool, true, false, ◌&&◌, ◌||◌, not, false≢true, and-false, and_comm}
use mathlib.Core.List.{List, [], ◌∷◌, ◌++◌, map}
use lib.ListN.{take, drop}
use lib.Dec.{eqb}
use borrow.Author.Tests.{eqb-true}
use Rattle.definitions.specs.Words.Basics.{any, all}
use Rattle.definitions.specs.Words.Expression.{Side, left, right, no_side, Expr, Exprs, nil, cons, Record}
use Rattle.definitions.specs.Words.References.{columns_of, same_side}
use Rattle.definitions.specs.Words.Leaves.{leaves}
use Rattle.definitions.specs.Filter.Match.{ArgumentSide, no_columns, all_on, mixed, common_side, is_side}
use Rattle.definitions.specs.Filter.Exchange.{negate, exchange_frame}
use Rattle.definitions.specs.Filter.Settings.{Settings}
use Rattle.definitions.specs.Filter.Verdicts.{Verdict, as_relation, as_distance, as_knn, other_case, other_side, other_operator, inside_another, nothing_of_ours, kind_left_out, too_few_arguments, too_many_arguments, first_without_columns, first_of_both, first_with_mark, second_without_columns, second_of_both, second_with_mark, both_left, both_right, bound_of_both, bound_with_mark, k_no_number, k_below_one, k_above_greatest, spheroid_no_flag, ties_no_flag, verdict_byte, reasons, PriceLine, relation_line, distance_line, knn_line, no_line, line_meant, is_no_line, is_distance_line, arguments_of, argument_is, sides_of, none_of, of_both, of_mark, only_of, geometry_is, bound_is, applies_by, applies, first_that, matches_as, verdict_under, verdicts_under, exchange_verdict}
use Rattle.definitions.specs.Claims.Verdicts.{VerdictsExchanged}
use Rattle.theorems.proofs.Tools.{and-both}
use Rattle.theorems.proofs.Exchange.{negate-negate, swapped, same-negated}
use Rattle.theorems.proofs.MatchTurns.{turned, common-negated, sides-at}
use Rattle.theorems.proofs.VerdictReasons.{bytes-apart-hold}

-- ---- sides

sides-turned : (rs : List Record) (e : Expr) → sides_of (swapped rs) e ≡ map negate (sides_of rs e)
unfolding sides_of
sides-turned rs e = sides-at rs (columns_of e)

same-other : (s t : Side) → same_side s (negate t) ≡ same_side (negate s) t
same-other s t = ap (λ (u : Side). same_side u (negate t)) (sym (negate-negate s)) ∙ same-negated (negate s) t

any-negated : (s : Side) (ss : List Side) → any (same_side s) (map negate ss) ≡ any (same_side (negate s)) ss
unfolding any
any-negated s [] = refl
any-negated s (t ∷ ss) = ap₂ ◌||◌ (same-other s t) (any-negated s ss)

none-turned : (ss : List Side) → none_of (map negate ss) ≡ none_of ss
unfolding none_of
none-turned [] = refl
none-turned (s ∷ ss) = refl

both-turned : (ss : List Side) → of_both (map negate ss) ≡ of_both ss
unfolding of_both negate
both-turned ss = ap₂ ◌&&◌ (any-negated left ss) (any-negated right ss) ∙ and_comm (any (same_side right) ss) (any (same_side left) ss)

mark-turned : (ss : List Side) → of_mark (map negate ss) ≡ of_mark ss
unfolding of_mark negate
mark-turned ss = any-negated no_side ss

side-turned : (s : Side) (c : ArgumentSide) → is_side s (turned c) ≡ is_side (negate s) c
unfolding is_side
side-turned s no_columns = refl
side-turned s mixed = refl
side-turned s (all_on t) = same-other s t

only-turned : (s : Side) (ss : List Side) → only_of s (map negate ss) ≡ only_of (negate s) ss
unfolding only_of
only-turned s ss = ap (is_side s) (common-negated ss) ∙ side-turned s (common_side ss)

-- ---- reasons

argument-same : (t u : Expr → Bool) → ((e : Expr) → t e ≡ u e) → (place : ℕ) (es : Exprs) → argument_is place t es ≡ argument_is place u es
unfolding argument_is
argument-same t u h place nil = refl
argument-same t u h zero (cons e es) = h e
argument-same t u h (suc place) (cons e es) = argument-same t u h place es

module _ (rs : List Record) (t u : List Side → Bool) (h : (ss : List Side) → t (map negate ss) ≡ u ss) (line : PriceLine) (es : Exprs) where
  argument-turned : (place : ℕ)
      → argument_is place (λ e. t (sides_of (swapped rs) e)) es ≡ argument_is place (λ e. u (sides_of rs e)) es
  argument-turned place =
      argument-same (λ e. t (sides_of (swapped rs) e)) (λ e. u (sides_of rs e)) (λ e. ap t (sides-turned rs e) ∙ h (sides_of rs e)) place es

  geometry-turned : (place : ℕ) → geometry_is (swapped rs) line es place t ≡ geometry_is rs line es place u
  unfolding geometry_is
  geometry-turned place = ap (λ (b : Bool). not (is_no_line line) && b) (argument-turned place)

  bound-turned : bound_is (swapped rs) line es t ≡ bound_is rs line es u
  unfolding bound_is
  bound-turned = ap (λ (b : Bool). is_distance_line line && b) (argument-turned 2)

-- Of both, one at most.
not-two : (c : ArgumentSide) → is_side left c ≡ true → is_side right c ≡ false
unfolding is_side same_side
not-two no_columns e = refl
not-two mixed e = refl
not-two (all_on left) e = refl
not-two (all_on right) e = absurd (false≢true e)
not-two (all_on no_side) e = refl

-- A verdict that exchange keeps.
abbrev names_no_child : Verdict → Bool
names_no_child v = eqb (verdict_byte (exchange_verdict v)) (verdict_byte v)

module _ (S : Settings) (rs : List Record) (leaf : Expr) where
  by-turned : (line : PriceLine) (es : Exprs) (v : Verdict)
      → applies_by S (swapped rs) leaf line es v ≡ applies_by S rs leaf line es (exchange_verdict v)
  unfolding applies_by exchange_verdict verdict_byte negate
  by-turned line es as_relation = refl
  by-turned line es as_distance = refl
  by-turned line es as_knn = refl
  by-turned line es other_case = refl
  by-turned line es other_side = refl
  by-turned line es other_operator = refl
  by-turned line es inside_another = refl
  by-turned line es nothing_of_ours = refl
  by-turned line es kind_left_out = refl
  by-turned line es too_few_arguments = refl
  by-turned line es too_many_arguments = refl
  by-turned line es first_without_columns = geometry-turned rs none_of none_of none-turned line es 0
  by-turned line es first_of_both = geometry-turned rs of_both of_both both-turned line es 0
  by-turned line es first_with_mark = geometry-turned rs of_mark of_mark mark-turned line es 0
  by-turned line es second_without_columns = geometry-turned rs none_of none_of none-turned line es 1
  by-turned line es second_of_both = geometry-turned rs of_both of_both both-turned line es 1
  by-turned line es second_with_mark = geometry-turned rs of_mark of_mark mark-turned line es 1
  by-turned line es both_left =
      ap₂ ◌&&◌ (geometry-turned rs (only_of left) (only_of right) (only-turned left) line es 0)
      (geometry-turned rs (only_of left) (only_of right) (only-turned left) line es 1)
  by-turned line es both_right =
      ap₂ ◌&&◌ (geometry-turned rs (only_of right) (only_of left) (only-turned right) line es 0)
      (geometry-turned rs (only_of right) (only_of left) (only-turned right) line es 1)
  by-turned line es bound_of_both = bound-turned rs of_both of_both both-turned line es
  by-turned line es bound_with_mark = bound-turned rs of_mark of_mark mark-turned line es
  by-turned line es k_no_number = refl
  by-turned line es k_below_one = refl
  by-turned line es k_above_greatest = refl
  by-turned line es spheroid_no_flag = refl
  by-turned line es ties_no_flag = refl

  applies-turned : (v : Verdict) → applies S (swapped rs) leaf v ≡ applies S rs leaf (exchange_verdict v)
  unfolding applies
  applies-turned = by-turned (line_meant leaf) (arguments_of leaf)

  geometry-one : (line : PriceLine) (es : Exprs) → geometry_is rs line es 0 (only_of left) ≡ true
      → geometry_is rs line es 0 (only_of right) ≡ false
  unfolding geometry_is argument_is is_no_line only_of
  geometry-one line nil e = and-false (not (is_no_line line))
  geometry-one relation_line (cons a es) e = not-two (common_side (sides_of rs a)) e
  geometry-one distance_line (cons a es) e = not-two (common_side (sides_of rs a)) e
  geometry-one knn_line (cons a es) e = not-two (common_side (sides_of rs a)) e
  geometry-one no_line (cons a es) e = refl

  first-of-both : (a b c d : Bool) → (a ≡ true → c ≡ false) → (a && b) ≡ true → (c && d) ≡ false
  first-of-both true b c d h e = ap (λ (x : Bool). x && d) (h refl)
  first-of-both false b c d h e = absurd (false≢true e)

  not-both : applies S rs leaf both_left ≡ true → applies S rs leaf both_right ≡ false
  unfolding applies applies_by
  not-both = first-of-both _ _ _ _ (geometry-one (line_meant leaf) (arguments_of leaf))

  -- The verdict, from the last reason to the first.
  abbrev found : List Verdict → Verdict
  found vs = first_that (applies S rs leaf) (matches_as (line_meant leaf)) vs

  abbrev Turned : List Verdict → Type 0
  Turned vs = first_that (applies S (swapped rs) leaf) (matches_as (line_meant leaf)) vs ≡ exchange_verdict (found vs)

  if-turned : (b : Bool) (v x : Verdict) → exchange_verdict v ≡ v
      → (if b then v else exchange_verdict x) ≡ exchange_verdict (if b then v else x)
  if-turned true v x e = sym e
  if-turned false v x e = refl

  one-turned : (v : Verdict) (vs : List Verdict) → exchange_verdict v ≡ v → Turned vs → Turned (v ∷ vs)
  unfolding first_that
  one-turned v vs e h =
      ap₂ (λ (b : Bool) (x : Verdict). if b then v else x) (applies-turned v ∙ ap (applies S rs leaf) e) h
      ∙ if-turned (applies S rs leaf v) v (found vs) e

  if-two : (a b : Bool) → (a ≡ true → b ≡ false) → (x : Verdict)
      → (if b then both_left else if a then both_right else exchange_verdict x)
      ≡ exchange_verdict (if a then both_left else if b then both_right else x)
  unfolding exchange_verdict verdict_byte
  if-two true true h x = absurd (false≢true (sym (h refl)))
  if-two true false h x = refl
  if-two false true h x = refl
  if-two false false h x = refl

  two-turned : (vs : List Verdict) → Turned vs → Turned (both_left ∷ both_right ∷ vs)
  unfolding first_that
  two-turned vs h =
      let l : applies S (swapped rs) leaf both_left ≡ applies S rs leaf both_right =
      applies-turned both_left ∙ ap (applies S rs leaf) (unfold exchange_verdict verdict_byte in refl) in
      let r : applies S (swapped rs) leaf both_right ≡ applies S rs leaf both_left =
      applies-turned both_right ∙ ap (applies S rs leaf) (unfold exchange_verdict verdict_byte in refl) in
      ap₂ (λ (b : Bool) (x : Verdict). if b then both_left else x) l (ap₂ (λ (b : Bool) (x : Verdict). if b then both_right else x) r h)
      ∙ if-two (applies S rs leaf both_left) (applies S rs leaf both_right) not-both (found vs)

  none-left : (line : PriceLine) → matches_as line ≡ exchange_verdict (matches_as line)
  unfolding matches_as exchange_verdict verdict_byte
  none-left relation_line = refl
  none-left distance_line = refl
  none-left knn_line = refl
  none-left no_line = refl

  -- Reasons that name no child, before others.
  some-turned : (vs more : List Verdict) → all names_no_child vs ≡ true → Turned more → Turned (vs ++ more)
  unfolding all
  some-turned [] more h t = t
  some-turned (v ∷ vs) more h t =
      let both : (names_no_child v ≡ true) × (all names_no_child vs ≡ true) = and-both (names_no_child v) (all names_no_child vs) h in
      one-turned v (vs ++ more) (bytes-apart-hold.0 (exchange_verdict v) v (eqb-true _ _ both.0)) (some-turned vs more both.1 t)

  all-turned : Turned reasons
  unfolding reasons exchange_verdict verdict_byte first_that all
  all-turned =
      some-turned (take 14 reasons) (drop 14 reasons) refl
      (two-turned (drop 16 reasons) (some-turned (drop 16 reasons) [] refl (none-left (line_meant leaf))))

  verdict-turned : verdict_under S (swapped rs) leaf ≡ exchange_verdict (verdict_under S rs leaf)
  unfolding verdict_under
  verdict-turned = all-turned

each-turned : (S : Settings) (rs : List Record) (es : List Expr)
    → map (verdict_under S (swapped rs)) es ≡ map exchange_verdict (map (verdict_under S rs) es)
each-turned S rs [] = refl
each-turned S rs (e ∷ es) = ap₂ (λ (v : Verdict) (vs : List Verdict). v ∷ vs) (verdict-turned S rs e) (each-turned S rs es)

pub verdicts-turned : VerdictsExchanged
unfolding verdicts_under exchange_frame
verdicts-turned S F = each-turned S F.records (leaves F.expr)
