-- What is refused by its length or its first byte has the refusal of the definitions.
use mathlib.Core.Path.{ap}
use Rattle.std.proofs.lemmas.Result.{err_from_is_err_and}
use Rattle.definitions.specs.Bytes.Readers.{give, result_of}
use Rattle.definitions.specs.Bytes.Decode.{fields, expression}
use Rattle.definitions.specs.Bytes.Plans.{logical_frame, logical_of}
use Rattle.frame_reader.proofs.Wholes.{unopened}
use Rattle.logical_filter.proofs.call.Naming.{logical-refuses}
use Rattle.logical_filter.proofs.call.logical.Goals as goal

pub returns-in_err-opened : goal.returns-in_err-opened
unfolding logical_of logical_frame result_of
returns-in_err-opened c =
    let p = err_from_is_err_and c.from_residual.result c.from_residual.ensures.1 in
    rw (p.1, p.2) (logical-refuses _ _ (ap result_of (unopened 2 (expression fields) give _ (c.in_err-opened.ensures 0))))
