-- `other_call_verdict`: its name in small letters, else what stands below it.
use Rattle.leaf_verdicts.proofs.LaidLaws.{call-row}
use Rattle.leaf_verdicts.proofs.StageLaws.{call-unmeant}
use Rattle.leaf_verdicts.proofs.leaf.other_call_verdict.Goals as goal

pub name-requires : goal.name-requires
name-requires c = (_, c.requires.1, c.requires.2, c.requires.3.over.stands)

pub inside_verdict-requires : goal.inside_verdict-requires
inside_verdict-requires c = (_, c.requires.0, c.requires.2, call-row c.requires.3)

pub returns-then-named_in_small : goal.returns-then-named_in_small
returns-then-named_in_small c =
    λ records name ts h.
    rw (call-unmeant name ts, ← (rw (c.name.ensures, h.over.stands.spelling) at c.named_in_small.ensures), c.if-named_in_small.true)

pub returns-else-named_in_small : goal.returns-else-named_in_small
returns-else-named_in_small c =
    λ records name ts h.
    rw (call-unmeant name ts, ← (rw (c.name.ensures, h.over.stands.spelling) at c.named_in_small.ensures), c.if-named_in_small.false)
    (c.inside_verdict.ensures _ records ts (call-row h))
