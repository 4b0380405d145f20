-- `literal_in_range`: an Int32 is in range where its conversion to 32 bits succeeds.
use mir.Facts.{to_z-of_z}
use mir.Syntax.{w64}
use mathlib.Core.Path.{ap, ◌∙◌}
use Rattle.definitions.specs.Words.Literals.{is_int32, literal_in_range}
use Rattle.expression.proofs.Signed.{converts-int32}
use Rattle.expression.proofs.literals.literal_in_range.Goals as goal

pub returns-in-2 : goal.returns-in-2
unfolding literal_in_range
returns-in-2 c =
    let given = to_z-of_z {w = w64} {z = c.signed.result} (record { sfits = c.signed.type_inv }) in
    rw c.in-2.is (c.is_ok.ensures.value ∙ converts-int32 _ _ c.try_from.ensures ∙ ap is_int32 (given ∙ c.signed.ensures))
