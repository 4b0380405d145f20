-- `measured_verdict`: its bound stands elsewhere.
use native.Mathlib.Omega.{arith}
use mathlib.Core.Path.{refl}
use Rattle.leaf_verdicts.proofs.LaidLaws.{two-at}
use Rattle.leaf_verdicts.proofs.ArgumentLaws.{measured-few, measured-told}
use Rattle.leaf_verdicts.proofs.leaf.measured_verdict.Goals as goal

pub returns-then-n-lt2 : goal.returns-then-n-lt2
returns-then-n-lt2 c =
    λ at records ts h p d bound. measured-few records d ts (omega (arith, c.if-n-lt2.true, h.over.row.counted))

pub two_geometries-requires : goal.two_geometries-requires
two_geometries-requires c = two-at c.requires.row c.if-n-lt2.false

pub returns-in-Some : goal.returns-in-Some
returns-in-Some c =
    measured-told _ c.two_geometries.ensures c.if-n-lt2.false _ _ (λ at records d h. rw c.in-Some.is refl)

pub returns-in-None : goal.returns-in-None
returns-in-None c =
    measured-told _ c.two_geometries.ensures c.if-n-lt2.false _ _
    (λ at records d h. rw c.in-None.is (c.bound_verdict.ensures at records d h))
