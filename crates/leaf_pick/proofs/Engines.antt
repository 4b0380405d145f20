-- Two engines that meet the same contract pick alike: the definitions' pick is one, and the place of an AND-leaf is known by its position.
use Rattle.std.specs.Prelude.{Some, None}
use Prim.Native.Nat.{ℕ}
use native.Mathlib.Omega.{arith}
use mathlib.Core.Path.{◌≡◌, sym, ap, ◌∙◌}
use Rattle.definitions.specs.Words.Expression.{Expr}
use Rattle.definitions.specs.Filter.Extract as definition
use Rattle.expression.specs.Cuts.{CutAt, here, in_left, in_right}
use Rattle.expression.specs.declared.cuts.Cut.{Cut}
use Rattle.expression.proofs.AndLeaves.{no-and, position-below}
use Rattle.leaf_pick.specs.Engines.{EnginesAgree}

-- ---- one place for a position

same-cut : (a b : Cut) → a.leaf ≡ b.leaf → a.end ≡ b.end → a.parent ≡ b.parent → a ≡ b
same-cut a b e f g = λ i. record { leaf = e i; end = f i; parent = g i }

one-cut : {a b : Cut} {up : ℕ} {t : Expr} {at p q : ℕ} → p ≡ q → CutAt a up t at p → CutAt b up t at q → a ≡ b
one-cut {a} {b} e (here single place ends parent) (here single' place' ends' parent') =
    same-cut a b (place ∙ sym place') (ends ∙ sym ends') (parent ∙ sym parent')
one-cut e (here single place ends parent) (in_left {l = l} {r = r} more) = absurd (no-and l r single)
one-cut e (here single place ends parent) (in_right {l = l} {r = r} more) = absurd (no-and l r single)
one-cut e (in_left {l = l} {r = r} more) (here single place ends parent) = absurd (no-and l r single)
one-cut e (in_right {l = l} {r = r} more) (here single place ends parent) = absurd (no-and l r single)
one-cut e (in_left more) (in_left more') = one-cut e more more'
one-cut e (in_left more) (in_right more') = absurd (omega (arith, e, position-below more))
one-cut e (in_right more) (in_left more') = absurd (omega (arith, e, position-below more'))
one-cut e (in_right {position = p} more) (in_right {position = q} more') = one-cut (omega (arith, e)) more more'

-- ---- the picks

pub engines-agree : EnginesAgree
engines-agree match s at (Some p) (Some q) records t a b =
    let one : ◌≡◌ {A = definition.Pick} (record { position = p.position; predicate = a.q })
    (record { position = q.position; predicate = b.q }) = cc (a.is, b.is) in
    let same : p.position ≡ q.position = ap (λ (x : definition.Pick). x.position) one in
    record {
      position = same;
      cut = one-cut same a.cut b.cut;
      predicate = a.q;
      one = a.stands;
      other = rw (ap (λ (x : definition.Pick). x.predicate) one) b.stands;
    }
engines-agree match s at (Some p) None records t a b = let z : ◌≡◌ {A = ℕ} 0 1 = cc (a.is, b) in absurd (omega arith)
engines-agree match s at None (Some q) records t a b = let z : ◌≡◌ {A = ℕ} 0 1 = cc (a, b.is) in absurd (omega arith)
engines-agree match s at None None records t a b = tt
