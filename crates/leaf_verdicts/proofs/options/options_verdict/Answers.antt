-- `options_verdict`: a k that is right has ten bytes, and after it stand the flags.
use Rattle.expression.proofs.Standing.{first-there, rest-there}
use Rattle.leaf_verdicts.proofs.OptionLaws.{options-none, k-wrong, k-next, k-right}
use Rattle.leaf_verdicts.proofs.options.options_verdict.Goals as goal

pub returns-then-n-eq0 : goal.returns-then-n-eq0
returns-then-n-eq0 c = options-none _ c.if-n-eq0.true

pub k_reason-requires : goal.k_reason-requires
k_reason-requires c = first-there c.requires c.if-n-eq0.false

pub returns-in-Some : goal.returns-in-Some
returns-in-Some c = k-wrong c.if-n-eq0.false _ _ c.in-Some.ensures

pub flags_verdict-requires : goal.flags_verdict-requires
flags_verdict-requires c =
    rest-there c.requires c.if-n-eq0.false _ (k-next c.if-n-eq0.false _ (rw c.in_default.is at c.k_reason.ensures))

pub returns : goal.returns
returns c = k-right c.if-n-eq0.false _ (rw c.in_default.is at c.k_reason.ensures) _ c.flags_verdict.ensures
