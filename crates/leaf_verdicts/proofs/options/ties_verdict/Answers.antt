-- `ties_verdict`: only the first literal of the row is a flag for ties.
use Rattle.expression.proofs.Standing.{first-there}
use Rattle.leaf_verdicts.proofs.OptionLaws.{ties-none, ties-told}
use Rattle.leaf_verdicts.proofs.options.ties_verdict.Goals as goal

pub returns-then-n-eq0 : goal.returns-then-n-eq0
returns-then-n-eq0 c = ties-none c.if-n-eq0.true

pub extract_literal_bool-requires : goal.extract_literal_bool-requires
extract_literal_bool-requires c = first-there c.requires c.if-n-eq0.false

pub returns-then-is_none : goal.returns-then-is_none
returns-then-is_none c =
    ties-told c.if-n-eq0.false _ c.extract_literal_bool.ensures _ (rw c.if-is_none.ensures)

pub returns : goal.returns
returns c =
    ties-told c.if-n-eq0.false _ c.extract_literal_bool.ensures _ (rw c.if-is_none.ensures)
