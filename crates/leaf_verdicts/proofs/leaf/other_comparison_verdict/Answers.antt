-- `other_comparison_verdict`: `st_distance` in other letters, or on the side that is not looked at, else what stands below it.
use Rattle.leaf_verdicts.specs.Stages.{other_stage}
use Rattle.leaf_verdicts.proofs.leaf.other_comparison_verdict.Goals as goal

pub returns-then-is_distance : goal.returns-then-is_distance
unfolding other_stage
returns-then-is_distance c =
    λ at records es h p m measured q b bound. rw (← c.is_distance.ensures p records m measured, c.if-is_distance.true)

pub returns-then-is_distance-2 : goal.returns-then-is_distance-2
unfolding other_stage
returns-then-is_distance-2 c =
    λ at records es h p m measured q b bound.
    rw (
      ← c.is_distance.ensures p records m measured,
      c.if-is_distance.false,
      ← c.is_distance-2.ensures q records b bound,
      c.if-is_distance-2.true,
    )

pub returns : goal.returns
unfolding other_stage
returns c =
    λ at records es h p m measured q b bound.
    rw (
      ← c.is_distance.ensures p records m measured,
      c.if-is_distance.false,
      ← c.is_distance-2.ensures q records b bound,
      c.if-is_distance-2.false,
    )
    (c.inside_verdict.ensures at records es h)
