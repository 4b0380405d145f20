-- `same_name`: the bytes are compared one by one, as in the definition.
use mathlib.Core.Path.{◌∙◌}
use Rattle.expression.proofs.NameLaws.{by_bytes}
use Rattle.expression.proofs.names.same_name.Goals as goal

pub returns : goal.returns
returns c =
    c.eq.ensures ∙ by_bytes _ _
