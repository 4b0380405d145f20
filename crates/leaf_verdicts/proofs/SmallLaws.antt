-- What would be ours in small letters, by what a node is.
use Prim.Native.Nat.{ℕ, ◌+◌, ◌-◌, ◌<◌, ◌≤◌}
use native.Mathlib.Omega.{arith}
use mathlib.Core.Path.{◌≡◌, refl, sym, ap, ◌∙◌, subst}
use mathlib.Core.Bool.{Bool, true, false, ◌||◌}
use mathlib.Core.List.{List}
use Rattle.definitions.specs.Words.Expression.{Expr, binary}
use Rattle.definitions.specs.Words.Leaves.{comparison, no_comparison}
use Rattle.definitions.specs.Filter.Verdicts.{is_distance_call, measured_in_small, ours_in_small, some_of_ours}
use Rattle.expression.specs.Leaves.{PlainNode, plain_column, plain_literal, plain_other, plain_field}
use Rattle.expression.proofs.Standing.{no-children, some-children}
use Rattle.definitions.specs.Bytes.Good.{nodes}
use Rattle.node_table.specs.declared.NodeRecord.{NodeRecord as Lent}
use Rattle.filter_tree.specs.Trees.{OfNode}
use Rattle.sedona_expr.specs.Parsed.{SidesOf}
use Rattle.leaf_verdicts.specs.Laid.{LaidAll, AtIndex, OfIndex, RowAt, OfRow}
use Rattle.leaf_verdicts.proofs.LaidLaws.{first-laid, rest-laid, first-at, rest-at}

module _ (operator : ℕ) (l r : Expr) where
  pub compares-small : {P : ℕ → Expr → Type 0} {measured bound : ℕ} (sides : SidesOf P measured bound (comparison operator l r))
      (small : Bool) → small ≡ is_distance_call sides.m → small ≡ ours_in_small (binary operator l r)
  unfolding ours_in_small measured_in_small
  compares-small sides small e = e ∙ sym (ap measured_in_small sides.is)

  pub compares-nothing : comparison operator l r ≡ no_comparison → false ≡ ours_in_small (binary operator l r)
  unfolding ours_in_small measured_in_small
  compares-nothing e = sym (ap measured_in_small e)

pub plain-small : {t : Expr} → PlainNode t → false ≡ ours_in_small t
unfolding ours_in_small
plain-small plain_column = refl
plain-small plain_literal = refl
plain-small plain_other = refl
plain-small plain_field = refl

-- ---- the loop over a row

-- What it keeps, where so many expressions are left: an answer that is right for them is right for all.
pub record Looking (s : List ℕ) (rec : ℕ) (xs : List Lent) (i n left k : ℕ) : Type 0 where
  pub there : RowAt s rec xs k left
  pub rest : (r : Bool) → OfRow s rec xs k left (λ records ts. r ≡ some_of_ours ts)
      → OfRow s rec xs i n (λ records ts. r ≡ some_of_ours ts)

module _ {s : List ℕ} {rec : ℕ} {xs : List Lent} {i n : ℕ} where
  pub looking-begins : RowAt s rec xs i n → (left : ℕ) → n ≡ left → Looking s rec xs i n left i
  looking-begins there left e =
      subst (λ (k : ℕ). Looking s rec xs i n k i) e (record { there = there; rest = λ r is. is })

  module _ {left k : ℕ} (inv : Looking s rec xs i n left k) where
    pub looking-ends : left ≤ 0 → OfRow s rec xs i n (λ records ts. false ≡ some_of_ours ts)
    unfolding some_of_ours
    looking-ends none = inv.rest false
        (λ at records ts h. no-children (λ ts. false ≡ some_of_ours ts) refl ts (omega (arith, none, h.over.row.counted)))

    module _ (some : 0 < left) where
      pub looking-first : AtIndex s rec xs k
      looking-first = first-at inv.there some

      module _ {ours : Bool} (is : OfIndex s rec xs k (λ records t. ours ≡ ours_in_small t)) where
        pub looking-found : ours ≡ true → OfRow s rec xs i n (λ records ts. true ≡ some_of_ours ts)
        unfolding some_of_ours
        looking-found e = inv.rest true (λ at records ts h. some-children
            (λ ts. LaidAll s rec xs at k left records ts → true ≡ some_of_ours ts)
            (λ t ts w. ap (λ (b : Bool). b || some_of_ours ts) (sym e ∙ is at records t (first-laid w)))
            ts (omega (arith, some, h.over.row.counted)) h)

        pub looking-goes-on : ours ≡ false → {after : ℕ} → OfNode xs k (λ at t. after ≡ k + nodes t) → (fewer : ℕ) → left - 1 ≡ fewer
            → Looking s rec xs i n fewer after
        unfolding some_of_ours
        looking-goes-on e {after} ends fewer f = subst (λ (m : ℕ). Looking s rec xs i n m after) f (record {
          there = rest-at inv.there some ends;
          rest = λ r others. inv.rest r (λ at records ts h. some-children
              (λ ts. LaidAll s rec xs at k left records ts → r ≡ some_of_ours ts)
              (λ t ts w. others _ records ts
              (rest-laid w ends (omega (arith, some)))
              ∙ ap (λ (b : Bool). b || some_of_ours ts) (sym e ∙ is at records t (first-laid w)))
              ts (omega (arith, some, h.over.row.counted)) h);
        })
