-- `dwithin_verdict`: its bound stands after its two geometries.
use native.Mathlib.Omega.{arith}
use mathlib.Core.Path.{refl}
use Rattle.leaf_verdicts.proofs.LaidLaws.{index-node, two-at}
use Rattle.leaf_verdicts.proofs.ArgumentLaws.{distance-few, second-at, third-at, distance-told}
use Rattle.leaf_verdicts.proofs.leaf.dwithin_verdict.Goals as goal

pub returns-then-n-lt3 : goal.returns-then-n-lt3
returns-then-n-lt3 c =
    λ at records ts h. distance-few records ts (omega (arith, c.if-n-lt3.true, h.over.row.counted))

pub two_geometries-two-requires : goal.two_geometries-two-requires
two_geometries-two-requires c = two-at c.requires (omega (arith, c.if-n-lt3.false))

pub after-requires : goal.after-requires
after-requires c = index-node (second-at _ c.two_geometries-two.ensures (omega (arith, c.if-n-lt3.false)) c.requires)

pub bound_verdict-requires : goal.bound_verdict-requires
bound_verdict-requires c =
    third-at _ c.two_geometries-two.ensures (omega (arith, c.if-n-lt3.false)) c.requires c.if-n-lt3.false c.after.ensures

pub returns-in-Some : goal.returns-in-Some
returns-in-Some c =
    distance-told _ c.two_geometries-two.ensures (omega (arith, c.if-n-lt3.false)) c.if-n-lt3.false _
    (λ p records b d second third. rw c.in-Some.is refl)

pub returns-in-None : goal.returns-in-None
returns-in-None c =
    distance-told _ c.two_geometries-two.ensures (omega (arith, c.if-n-lt3.false)) c.if-n-lt3.false _
    (λ p records b d second third.
    rw c.in-None.is ((rw (c.after.ensures p b second.noded) at c.bound_verdict.ensures) _ records d third))
