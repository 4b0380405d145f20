-- 24 where the settings are not good; memory as long as a frame of that length asks for.
use Rattle.node_reader.proofs.Reading.{kept}
use Rattle.call_extract_all.proofs.Calling.{all-unsettled}
use Rattle.call_extract_all.proofs.call.extract_all.Goals as goal

pub returns-in_err-settings : goal.returns-in_err-settings
returns-in_err-settings c =
    rw (kept c.from_residual.ensures, c.in_err-settings.ensures.0) (all-unsettled _ _ _ c.in_err-settings.ensures.1)
