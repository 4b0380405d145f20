-- `inside_verdict`: one of them would be ours, or none.
use Rattle.leaf_verdicts.specs.Stages.{inside_stage}
use Rattle.leaf_verdicts.proofs.leaf.inside_verdict.Goals as goal

pub returns-then-some_of_ours : goal.returns-then-some_of_ours
unfolding inside_stage
returns-then-some_of_ours c =
    λ at records ts h. rw (← c.some_of_ours.ensures at records ts h, c.if-some_of_ours.true)

pub returns-else-some_of_ours : goal.returns-else-some_of_ours
unfolding inside_stage
returns-else-some_of_ours c =
    λ at records ts h. rw (← c.some_of_ours.ensures at records ts h, c.if-some_of_ours.false)
