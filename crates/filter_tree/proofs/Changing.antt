-- A loop over places that changes a value at each one.
use Rattle.std.specs.Prelude.{fold}
use Prim.Native.Nat.{ℕ}
use mathlib.Core.Path.{◌≡◌, sym, ap, ◌∙◌, subst}
use mathlib.Core.List.{List, [], ◌∷◌}
use Rattle.definitions.specs.Bytes.Good.{All}

-- Something holds of each place that is left, and what the loop makes of the value at those places is the goal.
pub record Changing {A : Type 0} (P : ℕ → Type 0) (f : A → ℕ → A) (goal : A) (left : List ℕ) (now : A) : Type 0 where
  pub each : All P left
  pub rest : fold f now left ≡ goal

module _ {A : Type 0} {P : ℕ → Type 0} {f : A → ℕ → A} {goal now : A} {left : List ℕ} (inv : Changing P f goal left now) where
  pub change-ends : left ≡ [] → now ≡ goal
  change-ends is = sym (ap (fold f now) is) ∙ inv.rest

  module _ {place : ℕ} {more : List ℕ} (is : left ≡ place ∷ more) where
    pub change-here : P place
    change-here = (subst (All P) is inv.each).0

    pub change-goes-on : (after : A) → after ≡ f now place → Changing P f goal more after
    change-goes-on after told = record {
      each = (subst (All P) is inv.each).1;
      rest = ap (λ (a : A). fold f a more) told ∙ sym (ap (fold f now) is) ∙ inv.rest;
    }
