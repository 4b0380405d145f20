-- `operator_verdict`: `st_distance` on either side, else what stands below it.
use Rattle.leaf_verdicts.specs.Stages.{operator_stage}
use Rattle.leaf_verdicts.proofs.LaidLaws.{index-node, first-laid, second-laid, pair-first, pair-second, pair-row}
use Rattle.leaf_verdicts.proofs.leaf.operator_verdict.Goals as goal
use Rattle.leaf_verdicts.proofs.leaf.operator_verdict.Goals.{then-is_distance-via-then-is_distance, then-is_distance-via-else-is_distance+then-is_distance-2}

pub is_distance-requires : goal.is_distance-requires
is_distance-requires c = pair-first c.requires

pub after-requires : goal.after-requires
after-requires c = index-node (pair-first c.requires)

pub is_distance-requires-else-is_distance : goal.is_distance-requires-else-is_distance
is_distance-requires-else-is_distance c = pair-second c.requires c.after.ensures

pub inside_verdict-requires : goal.inside_verdict-requires
inside_verdict-requires c = pair-row c.requires

pub returns-then-is_distance : goal.returns-then-is_distance
unfolding operator_stage
returns-then-is_distance c =
    λ at records l r h. elim c.then-is_distance.branch [
      | then-is_distance-via-then-is_distance w ↦
          rw (← c.is_distance.ensures at records l (first-laid h), w.if-is_distance.true)
      | then-is_distance-via-else-is_distance+then-is_distance-2 w ↦
          rw (
            ← c.is_distance.ensures at records l (first-laid h),
            w.if-is_distance.false,
            ← w.is_distance-else-is_distance.ensures _ records r (second-laid h w.after.ensures),
            w.if-is_distance-2.true,
          )
    ]

pub returns : goal.returns
unfolding operator_stage
returns c =
    λ at records l r h.
    rw (
      ← c.is_distance.ensures at records l (first-laid h),
      c.if-is_distance.false,
      ← c.is_distance-else-is_distance.ensures _ records r (second-laid h c.after.ensures),
      c.if-is_distance-2.false,
    )
    (c.inside_verdict.ensures at records _ h)
