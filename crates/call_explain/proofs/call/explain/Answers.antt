-- `explain`: settings that are not good get 24; rows as long as a frame of that length asks for.
use Rattle.node_reader.proofs.Reading.{kept}
use Rattle.call_explain.proofs.call.Explaining.{explain-unsettled}
use Rattle.call_explain.proofs.call.explain.Goals as goal

pub returns-in_err-settings : goal.returns-in_err-settings
returns-in_err-settings c =
    rw (kept c.from_residual.ensures, c.in_err-settings.ensures.0) (explain-unsettled _ _ _ c.in_err-settings.ensures.1)
