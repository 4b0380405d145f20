-- `knn_verdict`: its options stand after its two geometries.
use native.Mathlib.Omega.{arith}
use mathlib.Core.Path.{refl}
use Rattle.leaf_verdicts.proofs.LaidLaws.{index-node, two-at}
use Rattle.leaf_verdicts.proofs.ArgumentLaws.{knn-few, knn-many, second-at, options-there, knn-told}
use Rattle.leaf_verdicts.proofs.leaf.knn_verdict.Goals as goal

pub returns-then-n-lt2 : goal.returns-then-n-lt2
returns-then-n-lt2 c =
    λ at records ts h. knn-few records _ ts (omega (arith, c.if-n-lt2.true, h.over.row.counted))

pub returns-then-n-gt5 : goal.returns-then-n-gt5
returns-then-n-gt5 c =
    λ at records ts h. knn-many records _ ts (omega (arith, c.if-n-gt5.true, h.over.row.counted))

pub two_geometries-two-requires : goal.two_geometries-two-requires
two_geometries-two-requires c = two-at c.requires c.if-n-lt2.false

pub end-requires : goal.end-requires
end-requires c = index-node (second-at _ c.two_geometries-two.ensures c.if-n-lt2.false c.requires)

pub options_verdict-requires : goal.options_verdict-requires
options_verdict-requires c = options-there _ c.two_geometries-two.ensures c.if-n-lt2.false c.requires c.end.ensures

pub returns-in-Some : goal.returns-in-Some
returns-in-Some c =
    knn-told _ c.two_geometries-two.ensures c.if-n-lt2.false c.if-n-gt5.false _ _ (λ p records b more second row. rw c.in-Some.is refl)

pub returns-in-None : goal.returns-in-None
returns-in-None c =
    knn-told _ c.two_geometries-two.ensures c.if-n-lt2.false c.if-n-gt5.false _ _
    (λ p records b more second row.
    rw c.in-None.is ((rw (c.end.ensures p b second.noded) at c.options_verdict.ensures) _ more row))
