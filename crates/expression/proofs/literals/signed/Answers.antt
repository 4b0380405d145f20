-- `signed`: the conversion is that of the definition.
use mir.Facts.{to_z-of_z}
use mir.Syntax.{w64}
use mathlib.Core.Path.{◌∙◌}
use Rattle.expression.proofs.Signed.{twos_complement}
use Rattle.expression.proofs.literals.signed.Goals as goal

pub returns : goal.returns
returns c =
    to_z-of_z {w = w64} {z = c.cast_signed.result} (record { sfits = c.cast_signed.type_inv })
    ∙ c.cast_signed.ensures ∙ twos_complement c.args.bytes
