-- Right because it is the extract that the settings of the host's three numbers ask for.
use borrow.Author.Rules.{rules}
use mir.Facts.{to_z-of_z}
use mir.Syntax.{w64}
use mir.Val.{SFits}
use Rattle.spatialjoin_c.proofs.spatialjoin_extract.Goals as goal

pub returns : goal.returns
returns c =
    let fits : SFits w64 c.extract_number.result = search rules in
    simp to_z-of_z (rw c.host_settings-settings.ensures at c.extract_number.ensures)
