-- `named_in_small`: the spatial names are those that have a line.
use mathlib.Core.Path.{◌∙◌}
use Rattle.definitions.specs.Filter.Names.{lower_case}
use Rattle.leaf_verdicts.proofs.small_letters.NameLaws.{spatial-line}
use Rattle.leaf_verdicts.proofs.small_letters.named_in_small.Goals as goal

pub returns : goal.returns
returns c = c.is_spatial_name.ensures ∙ spatial-line (lower_case c.args.name.now)
