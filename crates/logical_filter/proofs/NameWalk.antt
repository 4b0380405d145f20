-- The name of one AND-leaf, and its bit.
use Rattle.std.specs.Prelude.{if◌then◌else◌}
use Prim.Native.Nat.{ℕ}
use mathlib.Core.Path.{◌≡◌, refl, sym, ap, ◌∙◌}
use mathlib.Core.Bool.{Bool, false}
use mathlib.Core.List.{List, [], ◌∷◌}
use Rattle.definitions.specs.Words.Basics.{ascii, same_name, any}
use Rattle.definitions.specs.Words.Expression.{Expr, binary}
use Rattle.definitions.specs.Words.Leaves.{no_comparison, comparison}
use Rattle.definitions.specs.Bytes.Decode.{Columns}
use Rattle.definitions.specs.Filter.Names.{lower_case, spatial_names, function_name, comparison_name, leaf_name, mask}
use Rattle.theorems.proofs.Cases.{each}
use Rattle.expression.specs.Places.{part}
use Rattle.expression.specs.Nodes.{kind_of, Stands}
use Rattle.expression.specs.Leaves.{NodeIs, CallIs, PlainNode, plain_column, plain_literal, plain_other, plain_field}
use Rattle.expression.specs.declared.leaves.Called.{Called}
use Rattle.expression.specs.declared.leaves.Node.{Node}
use Rattle.expression.specs.declared.leaves.Node.TheVariants.{And, Binary, Call, Plain}
use Rattle.expression.proofs.LeafLaws.{no-call}
use mathlib.Core.Logic.{inl, inr}
use Rattle.sedona_expr.specs.Parsed.{SidesOf}
use Rattle.logical_filter.specs.Logicals.{BitIs}

-- ---- the name of one leaf

no-function : (t : Expr) → (kind_of t ≡ 3 → ⊥) → function_name t ≡ []
unfolding kind_of function_name
no-function = each (λ t. (kind_of t ≡ 3 → ⊥) → function_name t ≡ []) (λ i g k. refl) (λ y v k. refl) (λ l r k. refl) (λ o l r k. refl)
    (λ n ts k. absurd (k refl)) (λ g ts k. refl) (λ b g k. refl)

pub no_distance : (t : Expr) → (kind_of t ≡ 3 → ⊥) → false ≡ same_name (function_name t) (ascii "st_distance")
unfolding ascii same_name
no_distance t k = ap (λ (n : List ℕ). same_name n (ascii "st_distance")) (sym (no-function t k))

-- Where a node is no function, none stands.
pub no_call : {c : Columns} {s : List ℕ} {at : ℕ} {t : Expr} → Stands c s at t → (r : Node) → ((k : Called) → r ≡ Call k → ⊥)
    → NodeIs c s at r t → kind_of t ≡ 3 → ⊥
no_call h (And first) n = no-call h (And first) (inl refl)
no_call h (Binary operator first) n = no-call h (Binary operator first) (inr (inl refl))
no_call h (Call k) n = absurd (n k refl)
no_call h (Plain head) n = no-call h (Plain head) (inr (inr refl))

pub small-name : {c : Columns} {s : List ℕ} {at : ℕ} {k : Called} {t : Expr} → CallIs c s at k t
    → lower_case (part s k.name k.end) ≡ function_name t
unfolding function_name
small-name b = ap lower_case b.stands.spelling ∙ ap function_name (sym b.is)

pub plain-name : {t : Expr} → PlainNode t → leaf_name t ≡ []
unfolding leaf_name
plain-name plain_column = refl
plain-name plain_literal = refl
plain-name plain_other = refl
plain-name plain_field = refl

-- A leaf without a name has no bit; one that counts as `st_dwithin` has the eleventh.
pub unnamed : {name : List ℕ} → name ≡ [] → 0 ≡ mask spatial_names (name ∷ [])
unfolding mask spatial_names ascii same_name any
unnamed e = ap (λ (n : List ℕ). mask spatial_names (n ∷ [])) (sym e)

pub named-dwithin : {name : List ℕ} → name ≡ ascii "st_dwithin" → 1024 ≡ mask spatial_names (name ∷ [])
unfolding mask spatial_names ascii same_name any
named-dwithin e = ap (λ (n : List ℕ). mask spatial_names (n ∷ [])) (sym e)

-- Only an operator and a function have one.
pub other-bit : (c : Columns) (s : List ℕ) (at : ℕ) (t : Expr) (r : Node) → ((o first : ℕ) → r ≡ Binary o first → ⊥)
    → ((k : Called) → r ≡ Call k → ⊥) → NodeIs c s at r t → BitIs 0 t
unfolding leaf_name
other-bit c s at t (And first) b n h = unnamed (ap leaf_name h.is)
other-bit c s at t (Binary operator first) b n h = absurd (b operator first refl)
other-bit c s at t (Call k) b n h = absurd (n k refl)
other-bit c s at t (Plain head) b n h = unnamed (plain-name h.0)

pub call-bit : {c : Columns} {s : List ℕ} {at bit : ℕ} {k : Called} {t : Expr} → CallIs c s at k t
    → bit ≡ mask spatial_names (lower_case (part s k.name k.end) ∷ []) → BitIs bit t
unfolding leaf_name
call-bit b is =
    is ∙ ap (λ (n : List ℕ). mask spatial_names (lower_case n ∷ [])) b.stands.spelling
    ∙ ap (λ (e : Expr). mask spatial_names (leaf_name e ∷ [])) (sym b.is)

module _ (operator : ℕ) (l r : Expr) where
  pub compares-nothing : comparison operator l r ≡ no_comparison → leaf_name (binary operator l r) ≡ []
  unfolding leaf_name comparison_name
  compares-nothing e = ap comparison_name e

  pub compares-side : {P : ℕ → Expr → Type 0} {measured bound : ℕ} (sides : SidesOf P measured bound (comparison operator l r))
      (same : Bool)
      → same ≡ same_name (function_name sides.m) (ascii "st_distance")
      → leaf_name (binary operator l r) ≡ (if same then ascii "st_dwithin" else [])
  unfolding leaf_name comparison_name
  compares-side sides same e = ap comparison_name sides.is ∙ rw (← e)
