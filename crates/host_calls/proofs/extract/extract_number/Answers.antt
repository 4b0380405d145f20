-- Right because it is the extract with the table with its answer as one number.
use Rattle.std.proofs.Common.{rules}
use native.Mathlib.Omega.{arith}
use Rattle.node_reader.proofs.Standing.{all-bytes}
use Rattle.node_table.specs.Records.{nodes_of}
use Rattle.host_calls.proofs.Numbers.{given_back}
use Rattle.host_calls.proofs.Hosting.{extract-hosted}
use Rattle.host_calls.proofs.CoreLaws.{extract-short}
use Rattle.host_calls.proofs.extract.extract_number.Goals as goal

pub walk_number-requires : goal.walk_number-requires
walk_number-requires c =
    let call = c.extract_by_table in
    extract-short _ _ _ _ _ _ (nodes_of c.args.table.now) call.result call.ensures (omega arith)
    (search (rules, all-bytes))

pub returns : goal.returns
returns c =
    let call = c.extract_by_table in
    extract-hosted c.args.plan.now (search (rules, all-bytes)) _ _ _ _ _ call.result
    call.ensures _ (given_back _ _ c.walk_number.type_inv c.walk_number.ensures)
