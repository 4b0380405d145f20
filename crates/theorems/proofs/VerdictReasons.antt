-- The bytes of the reasons rise along their list, so the first that applies has the least byte; and no two verdicts have the same.
use Rattle.std.specs.Prelude.{if◌then◌else◌}
use Prim.Native.Nat.{ℕ, zero, suc, ◌<◌}
use native.Mathlib.Omega.{arith}
use mathlib.Core.Path.{◌≡◌, refl, sym, ap, ◌∙◌}
use mathlib.Core.Bool.{Bool, true, false, ◌&&◌, ◌||◌, false≢true}
use mathlib.Core.List.{List, [], ◌∷◌}
use mathlib.Core.Option.{none, some}
use lib.ListN.{drop}
use lib.Dec.{ltb, eqb}
use borrow.Author.Tests.{ltb-true}
use Rattle.definitions.specs.Words.Basics.{any}
use Rattle.definitions.specs.Words.Expression.{Expr, Record}
use Rattle.definitions.specs.Filter.Settings.{Settings}
use Rattle.definitions.specs.Filter.Verdicts.{Verdict, as_relation, as_distance, as_knn, other_case, other_side, other_operator, inside_another, nothing_of_ours, kind_left_out, too_few_arguments, too_many_arguments, first_without_columns, first_of_both, first_with_mark, second_without_columns, second_of_both, second_with_mark, both_left, both_right, bound_of_both, bound_with_mark, k_no_number, k_below_one, k_above_greatest, spheroid_no_flag, ties_no_flag, verdict_byte, reasons, PriceLine, relation_line, distance_line, knn_line, no_line, line_meant, is_no_line, applies_by, applies, first_that, matches_as, verdict_under}
use Rattle.definitions.specs.Claims.Verdicts.{line_said, FirstReason, ReasonsTrueAndFirst, VerdictBytesApart}
use Rattle.theorems.proofs.Tools.{by-test, and-both}
use Rattle.theorems.proofs.VerdictMatches.{first-said, reasons-are}

-- ---- all verdicts

-- It holds of each of several.
abbrev Each : (Verdict → Type 0) → List Verdict → Type 0
Each P [] = Unit {0}
Each P (v ∷ vs) = P v × Each P vs

each-then : (P Q : Verdict → Type 0) → ((v : Verdict) → P v → Q v) → (vs : List Verdict) → Each P vs → Each Q vs
each-then P Q f [] h = tt
each-then P Q f (v ∷ vs) h = (f v h.0, each-then P Q f vs h.1)

each-from : (P : Verdict → Type 0) (place : ℕ) (vs : List Verdict) → Each P vs → Each P (drop place vs)
each-from P zero vs h = h
each-from P (suc place) [] h = tt
each-from P (suc place) (v ∷ vs) h = each-from P place vs h.1

-- What holds of the three matches and of each reason holds of every verdict.
every : (P : Verdict → Type 0) → P as_relation → P as_distance → P as_knn → Each P reasons → (v : Verdict) → P v
unfolding reasons
every P a b c h as_relation = a
every P a b c h as_distance = b
every P a b c h as_knn = c
every P a b c h other_case = (each-from P 0 reasons h).0
every P a b c h other_side = (each-from P 1 reasons h).0
every P a b c h other_operator = (each-from P 2 reasons h).0
every P a b c h inside_another = (each-from P 3 reasons h).0
every P a b c h nothing_of_ours = (each-from P 4 reasons h).0
every P a b c h kind_left_out = (each-from P 5 reasons h).0
every P a b c h too_few_arguments = (each-from P 6 reasons h).0
every P a b c h too_many_arguments = (each-from P 7 reasons h).0
every P a b c h first_without_columns = (each-from P 8 reasons h).0
every P a b c h first_of_both = (each-from P 9 reasons h).0
every P a b c h first_with_mark = (each-from P 10 reasons h).0
every P a b c h second_without_columns = (each-from P 11 reasons h).0
every P a b c h second_of_both = (each-from P 12 reasons h).0
every P a b c h second_with_mark = (each-from P 13 reasons h).0
every P a b c h both_left = (each-from P 14 reasons h).0
every P a b c h both_right = (each-from P 15 reasons h).0
every P a b c h bound_of_both = (each-from P 16 reasons h).0
every P a b c h bound_with_mark = (each-from P 17 reasons h).0
every P a b c h k_no_number = (each-from P 18 reasons h).0
every P a b c h k_below_one = (each-from P 19 reasons h).0
every P a b c h k_above_greatest = (each-from P 20 reasons h).0
every P a b c h spheroid_no_flag = (each-from P 21 reasons h).0
every P a b c h ties_no_flag = (each-from P 22 reasons h).0

-- ---- the first reason

-- The bytes rise, and the first is above this.
rising : ℕ → List Verdict → Bool
rising b [] = true
rising b (v ∷ vs) = ltb b (verdict_byte v) && rising (verdict_byte v) vs

reasons-rise : rising 0 reasons ≡ true
unfolding rising reasons verdict_byte
reasons-rise = refl

all-above : (b : ℕ) (vs : List Verdict) → rising b vs ≡ true → Each (λ v. b < verdict_byte v) vs
unfolding rising
all-above b [] r = tt
all-above b (v ∷ vs) r =
    let both : (ltb b (verdict_byte v) ≡ true) × (rising (verdict_byte v) vs ≡ true) = and-both (ltb b (verdict_byte v)) _ r in
    let first : b < verdict_byte v = ltb-true b (verdict_byte v) both.0 in
    (first, each-then _ _ (λ u h. omega (arith, first, h)) vs (all-above (verdict_byte v) vs both.1))

module _ (test : Verdict → Bool) (last : Verdict) where
  -- What the first that passes is, or the last.
  first-or : (Q : Verdict → Type 0) → ((v : Verdict) → test v ≡ true → Q v) → Q last → (vs : List Verdict) → Q (first_that test last vs)
  unfolding first_that
  first-or Q f z [] = z
  first-or Q f z (v ∷ vs) = by-test Q (test v) v (first_that test last vs) (f v) (λ _. first-or Q f z vs)

  none-before : (b : ℕ) (vs : List Verdict) → rising b vs ≡ true
      → Each (λ u. verdict_byte u < verdict_byte (first_that test last vs) → test u ≡ false) vs
  unfolding rising first_that
  none-before b [] r = tt
  none-before b (v ∷ vs) r =
      let later : rising (verdict_byte v) vs ≡ true = (and-both (ltb b (verdict_byte v)) _ r).1 in
      by-head (test v) refl (all-above (verdict_byte v) vs later) (none-before (verdict_byte v) vs later)
    where
      by-head : (t : Bool) → test v ≡ t → Each (λ u. verdict_byte v < verdict_byte u) vs
          → Each (λ u. verdict_byte u < verdict_byte (first_that test last vs) → test u ≡ false) vs
          → Each (λ u. verdict_byte u < verdict_byte (if t then v else first_that test last vs) → test u ≡ false) (v ∷ vs)
      by-head true e above rest =
          (λ l. absurd (omega (arith, l)), each-then _ _ (λ u h l. absurd (omega (arith, h, l))) vs above)
      by-head false e above rest = (λ l. e, rest)

  or-neither : (a b : Bool) → (a || b) ≡ false → (a ≡ false) × (b ≡ false)
  or-neither true b e = absurd (false≢true (sym e))
  or-neither false b e = (refl, e)

  none-at-all : (vs : List Verdict) → any test vs ≡ false → Each (λ u. test u ≡ false) vs
  unfolding any
  none-at-all [] e = tt
  none-at-all (v ∷ vs) e = let both : (test v ≡ false) × (any test vs ≡ false) = or-neither _ _ e in (both.0, none-at-all vs both.1)

module _ (S : Settings) (rs : List Record) (leaf : Expr) where
  abbrev test : Verdict → Bool
  test = applies S rs leaf

  abbrev last : Verdict
  last = matches_as (line_meant leaf)

  -- A leaf that is meant for no line.
  last-applies : (line : PriceLine) → line_meant leaf ≡ line → line_said (matches_as line) ≡ none → test (matches_as line) ≡ true
  unfolding matches_as line_said verdict_byte applies applies_by is_no_line
  last-applies relation_line e n = let z : ◌≡◌ {A = ℕ} 0 1 = cc in absurd (omega arith)
  last-applies distance_line e n = let z : ◌≡◌ {A = ℕ} 0 1 = cc in absurd (omega arith)
  last-applies knn_line e n = let z : ◌≡◌ {A = ℕ} 0 1 = cc in absurd (omega arith)
  last-applies no_line e n = ap is_no_line e

  no-reason : (b : Bool) (line : ℕ) → any test reasons ≡ b → line_said (verdict_under S rs leaf) ≡ some line → any test reasons ≡ false
  unfolding verdict_under
  no-reason false line e s = e
  no-reason true line e s =
      let said : none ≡ some line =
      sym (first-said test last reasons reasons-are ∙ ap (λ (x : Bool). if x then none else line_said last) e) ∙ s in
      let z : ◌≡◌ {A = ℕ} 0 1 = cc in absurd (omega arith)

  first-reason : FirstReason S rs leaf
  unfolding verdict_under applies applies_by
  first-reason = record {
    reason = first-or test last (λ v. line_said v ≡ none → test v ≡ true) (λ v e _. e) (last-applies (line_meant leaf) refl) reasons;
    first = every (λ r. verdict_byte r < verdict_byte (verdict_under S rs leaf) → test r ≡ false) (λ _. refl) (λ _. refl) (λ _. refl)
        (none-before test last 0 reasons reasons-rise);
    no_reason = λ line s. every (λ r. test r ≡ false) refl refl refl (none-at-all test last reasons (no-reason _ line refl s));
  }

pub reasons-first-hold : ReasonsTrueAndFirst
reasons-first-hold = first-reason

-- ---- bytes

-- The verdict of a byte.
of_byte : ℕ → Verdict
of_byte b = first_that (λ v. eqb (verdict_byte v) b) as_knn (as_relation ∷ as_distance ∷ reasons)

of-byte : (v : Verdict) → of_byte (verdict_byte v) ≡ v
unfolding of_byte first_that reasons verdict_byte
of-byte = every (λ v. of_byte (verdict_byte v) ≡ v) refl refl refl (search tt depth 40)

a-byte : (v : Verdict) → ltb (verdict_byte v) 256 ≡ true
unfolding reasons verdict_byte
a-byte = every (λ v. ltb (verdict_byte v) 256 ≡ true) refl refl refl (search tt depth 40)

pub bytes-apart-hold : VerdictBytesApart
bytes-apart-hold = (λ v w e. sym (of-byte v) ∙ ap of_byte e ∙ of-byte w, λ v. ltb-true (verdict_byte v) 256 (a-byte v))
