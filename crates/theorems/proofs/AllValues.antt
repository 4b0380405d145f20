-- The frame's value is the And of all the predicates and of the last remainder.
use Prim.Native.Nat.{ℕ, zero, suc, ◌<◌}
use native.Mathlib.Omega.{arith}
use mathlib.Core.Path.{◌≡◌, refl, sym, ap, ◌∙◌, subst}
use mathlib.Core.List.{List, [], ◌∷◌, ◌++◌, map}
use mathlib.Core.Option.{Option, none, some}
use lib.ListN.{length, get_or, length-map}
use Rattle.definitions.specs.Words.Expression.{Expr, Record, Frame, held}
use Rattle.definitions.specs.Words.Leaves.{leaves}
use Rattle.definitions.specs.Bytes.Decode.{index_below}
use Rattle.definitions.specs.Filter.Extract.{Pick, pick, without, prune, Matcher, matches_by}
use Rattle.definitions.specs.Bytes.Good.{InRange, GoodPlan}
use Rattle.definitions.specs.Meaning.Values.{and_value, Valuation, Meaning, value, frame_columns, frame_value, predicate_value}
use Rattle.definitions.specs.Meaning.Matchers.{Valued, Lawful}
use Rattle.definitions.specs.Filter.Conjuncts.{Conjuncts, no_round, round_then, but, positions_of, matching, knn_first}
use Rattle.definitions.specs.Meaning.Conjuncts.{and_of, rest_values, conjuncts_value}
use Rattle.theorems.proofs.Tools.{mapped_at}
use Rattle.theorems.proofs.Taken.{Taken, taken, rest_leaves, leaf-in-range}
use Rattle.theorems.proofs.Values.{and_rest, taken-value}
use Rattle.theorems.proofs.Truth.{prune-value}
use Rattle.theorems.proofs.AllPicks.{Round, a-round}
use Rattle.theorems.proofs.AllRounds.{Fit, rest_all, told, told-step, told_none, pick-fits, each-match, leaves-some, told_of, first-none, first_some, frame-fits}

-- The values of all that is taken and left.
abbrev values_of : Meaning → Valuation → Conjuncts → List ℕ
values_of M v C = map (λ p. predicate_value M v p.predicate) C.taken ++ rest_values M v C.rest

-- A list that is not empty, and whose And is this value.
pub record AndIs (xs : List ℕ) (x : ℕ) : Type 0 where
  pub first : ℕ
  pub others : List ℕ
  pub made : xs ≡ first ∷ others
  pub value : and_of xs ≡ x

-- One more.
and-more : (a : ℕ) (xs : List ℕ) (x : ℕ) → AndIs xs x → and_of (a ∷ xs) ≡ and_value a x
unfolding and_of
and-more a xs x h =
    ap (λ (l : List ℕ). and_of (a ∷ l)) h.made ∙ ap (and_value a) (ap and_of (sym h.made) ∙ h.value)

module _ {match : Matcher} {Asks : Meaning → Type 0} (laws : Lawful match Asks) (M : Meaning) (asked : Asks M) (v : Valuation)
    (rs : List Record) where
  abbrev f : ℕ → ℕ
  f = frame_columns v rs

  -- What the rounds take and leave of a rest has its value; nothing of nothing.
  abbrev RestValue : List ℕ → Option Expr → Type 0
  RestValue is none = values_of M v (told match rs is none) ≡ []
  RestValue is (some e) = AndIs (values_of M v (told match rs is (some e))) (value M f e)

  -- A predicate, then what the others take and leave.
  then-value : (a : ℕ) (is : List ℕ) (rest : Option Expr) → RestValue is rest
      → AndIs (a ∷ values_of M v (told match rs is rest)) (and_rest M f a rest)
  unfolding and_rest and_of
  then-value a is none h = record { first = a; others = _; made = refl; value = ap (λ (l : List ℕ). and_of (a ∷ l)) h }
  then-value a is (some e) h =
      record { first = a; others = _; made = refl; value = and-more a (values_of M v (told match rs is (some e))) (value M f e) h }

  leaf-value : (e : Expr) (p : Pick) → InRange (index_below (length rs)) e → p.position < length (leaves e)
      → get_or (map (match rs) (leaves e)) p.position none ≡ some p.predicate
      → value M f (get_or (leaves e) p.position e) ≡ predicate_value M v p.predicate
  leaf-value e p r b h =
      subst (Valued M v (value M f (get_or (leaves e) p.position e)))
      (sym (mapped_at (match rs) (leaves e) p.position e none b) ∙ h)
      (laws.means M v rs (get_or (leaves e) p.position e) asked
      (leaf-in-range (index_below (length rs)) (taken e e p.position b) r))

  round-value : (n : ℕ) (is : List ℕ) (e : Expr) (q : Option Pick) → Round is (map (match rs) (leaves e)) q → Fit rs (suc n) is (some e)
      → ((is' : List ℕ) (rest : Option Expr) → Fit rs n is' rest → RestValue is' rest)
      → AndIs (values_of M v (told match rs is (some e))) (value M f e)
  unfolding round_then no_round rest_values and_of
  round-value n is e none h fit more =
      subst (λ (C : Conjuncts). AndIs (values_of M v C) (value M f e)) (told_none match rs is e h)
      (record { first = frame_value M v (prune rs e); others = []; made = refl; value = prune-value M v rs e fit.range })
  round-value n is e (some p) h fit more =
      let i : ℕ = p.position in
      let b : i < length (leaves e) = rw (length-map (leaves e) (match rs)) at h.0 in
      let t : Taken e (get_or (leaves e) i e) (without i e) = taken e e i b in
      let same : and_rest M f (predicate_value M v p.predicate) (without i e) ≡ value M f e =
      ap (λ (x : ℕ). and_rest M f x (without i e)) (sym (leaf-value e p fit.range b h.1)) ∙ sym (taken-value M f t) in
      subst (λ (C : Conjuncts). AndIs (values_of M v C) (value M f e)) (told-step match rs is e p h)
      (subst (AndIs _) same (then-value (predicate_value M v p.predicate) (but i is) (without i e)
      (more (but i is) (without i e) (pick-fits match rs n is e p h.0 fit))))

  pub told-value : (n : ℕ) (is : List ℕ) (rest : Option Expr) → Fit rs n is rest → RestValue is rest
  unfolding told rest_leaves rest_all knn_first matching rest_values
  told-value zero is none fit = refl
  told-value (suc n) is none fit = refl
  told-value zero is (some e) fit = absurd (omega (arith, fit.enough, leaves-some e))
  told-value (suc n) is (some e) fit =
      round-value n is e (pick (map (match rs) (leaves e)))
      (a-round is (map (match rs) (leaves e)) (each-match match rs is e fit.each)) fit (told-value n)

-- The first frame, pruned or not.
module _ {match : Matcher} {Asks : Meaning → Type 0} (laws : Lawful match Asks) (M : Meaning) (asked : Asks M) (v : Valuation)
    (F : Frame) where
  first-value : (n : ℕ) (is : List ℕ) (q : Option Pick) → Round is (matches_by match F) q → Fit F.records n is (some F.expr)
      → conjuncts_value M v (told_of match is F) ≡ frame_value M v F
  unfolding conjuncts_value no_round rest_values and_of frame_value matches_by
  first-value n is none h fit = ap (conjuncts_value M v) (sym (first-none match F is h))
  first-value n is (some p) h fit =
      ap (conjuncts_value M v) (sym (first_some match F is p h.1))
      ∙ (told-value laws M asked v F.records n is (some F.expr) fit).value

  pub frame-value : GoodPlan (held F) → conjuncts_value M v (told_of match (positions_of F) F) ≡ frame_value M v F
  unfolding rest_leaves matches_by
  frame-value g =
      let fit : Fit F.records (length (leaves F.expr)) (positions_of F) (some F.expr) = frame-fits laws F _ g (omega arith) in
      first-value (length (leaves F.expr)) (positions_of F) (pick (matches_by match F))
      (a-round (positions_of F) (matches_by match F) (each-match match F.records (positions_of F) F.expr fit.each)) fit
