-- `low_after`: as its definition says.
use mathlib.Core.Path.{sym, ◌∙◌}
use Rattle.filter_tree.specs.Spines.{low_after}
use Rattle.filter_tree.proofs.spine.low_after.Goals as goal

pub returns-then-is_and : goal.returns-then-is_and
unfolding low_after
returns-then-is_and c = rw (sym c.is_and.ensures ∙ c.if-is_and.true)

pub returns-else-is_and : goal.returns-else-is_and
unfolding low_after
returns-else-is_and c = rw (sym c.is_and.ensures ∙ c.if-is_and.false)
