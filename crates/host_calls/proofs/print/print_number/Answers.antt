-- `print_number`: the answer as one number.
use Rattle.std.proofs.Common.{rules}
use Rattle.node_reader.proofs.Standing.{all-bytes}
use Rattle.host_calls.proofs.Numbers.{given_back}
use Rattle.host_calls.proofs.Lengths.{text-short, print-hosted}
use Rattle.host_calls.proofs.print.print_number.Goals as goal

pub answer_number-requires : goal.answer_number-requires
answer_number-requires c = text-short _ _ _ c.print.result c.print.ensures (search (rules, all-bytes))

pub returns : goal.returns
returns c = print-hosted _ _ _ c.print.result c.print.ensures _ (given_back _ _ c.answer_number.type_inv c.answer_number.ensures)
