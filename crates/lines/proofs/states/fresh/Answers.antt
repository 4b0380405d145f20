-- `fresh`: no plan, no line begun, nothing to be written.
use mathlib.Core.Path.{refl}
use Rattle.lines.proofs.SessionLaws.{stands-fresh}
use Rattle.lines.proofs.states.fresh.Goals as goal

pub returns : goal.returns
returns c =
    record {
      filled_value = refl;
      by_index = stands-fresh;
    }
