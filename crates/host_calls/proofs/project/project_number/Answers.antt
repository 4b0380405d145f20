-- `project_number`: the projection's answer as one number.
use Rattle.std.proofs.Common.{rules}
use Rattle.node_reader.proofs.Standing.{all-bytes}
use Rattle.host_calls.proofs.Numbers.{given_back}
use Rattle.host_calls.proofs.Hosting.{call-hosted}
use Rattle.host_calls.proofs.Lengths.{projected-short}
use Rattle.host_calls.proofs.project.project_number.Goals as goal

pub answer_number-requires : goal.answer_number-requires
answer_number-requires c =
    projected-short _ _ _ _ _ _ _ c.project.result c.project.ensures
    (search (rules, all-bytes))

pub returns : goal.returns
returns c =
    let call = c.project in
    call-hosted c.args.plan.now (search (rules, all-bytes)) _ _ _ _ call.result call.ensures _
    (given_back _ _ c.answer_number.type_inv c.answer_number.ensures)
