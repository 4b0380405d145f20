-- `flags_verdict`: a flag that was read has ten bytes, and after it stands that of ties.
use Rattle.expression.proofs.Standing.{first-there, rest-there}
use Rattle.leaf_verdicts.proofs.OptionLaws.{flags-none, spheroid-missing, flag-next, flags-told}
use Rattle.leaf_verdicts.proofs.options.flags_verdict.Goals as goal

pub returns-then-n-eq0 : goal.returns-then-n-eq0
returns-then-n-eq0 c = flags-none c.if-n-eq0.true

pub extract_literal_bool-requires : goal.extract_literal_bool-requires
extract_literal_bool-requires c = first-there c.requires c.if-n-eq0.false

pub returns-then-is_none : goal.returns-then-is_none
returns-then-is_none c = spheroid-missing c.if-n-eq0.false _ c.extract_literal_bool.ensures c.if-is_none.ensures

pub ties_verdict-requires : goal.ties_verdict-requires
ties_verdict-requires c =
    rest-there c.requires c.if-n-eq0.false _ (flag-next c.if-n-eq0.false _ c.extract_literal_bool.ensures c.if-is_none.ensures)

pub returns : goal.returns
returns c = flags-told c.if-n-eq0.false _ c.extract_literal_bool.ensures c.if-is_none.ensures _ c.ties_verdict.ensures
