-- `relation_verdict`: only its two geometries can be wrong.
use native.Mathlib.Omega.{arith}
use Rattle.leaf_verdicts.specs.declared.verdict.Verdict.TheVariants as verdict
use Rattle.leaf_verdicts.proofs.LaidLaws.{two-at}
use Rattle.leaf_verdicts.proofs.ArgumentLaws.{relation-few, relation-told, or-else}
use Rattle.leaf_verdicts.proofs.leaf.relation_verdict.Goals as goal

pub returns-then-n-lt2 : goal.returns-then-n-lt2
returns-then-n-lt2 c =
    λ at records ts h. relation-few records ts (omega (arith, c.if-n-lt2.true, h.over.row.counted))

pub two_geometries-requires : goal.two_geometries-requires
two_geometries-requires c = two-at c.requires c.if-n-lt2.false

pub returns : goal.returns
returns c =
    rw (c.unwrap_or.ensures, or-else c.two_geometries.result.reason verdict.AsRelation)
    (relation-told c.two_geometries.result c.two_geometries.ensures c.if-n-lt2.false)
