-- Right because it is the merge with its answer as one number.
use Rattle.std.proofs.Common.{rules}
use Rattle.node_reader.proofs.Standing.{all-bytes}
use Rattle.host_calls.proofs.CoreLaws.{merge-short}
use Rattle.host_calls.proofs.merge.merge_core.Goals as goal

pub left_by-requires : goal.left_by-requires
left_by-requires c = merge-short _ _ _ _ _ _ _ c.merge.result c.merge.ensures

pub returns : goal.returns
returns c = (search (rules, all-bytes), search (rules, all-bytes), c.merge.result, c.merge.ensures, c.left_by.ensures)
