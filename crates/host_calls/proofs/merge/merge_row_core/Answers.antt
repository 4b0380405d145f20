-- Right because it is the merge with its answer as one number.
use Rattle.std.proofs.Common.{rules}
use Rattle.node_reader.proofs.Standing.{all-bytes}
use Rattle.host_calls.proofs.CoreLaws.{merge-short, merged-left}
use Rattle.host_calls.proofs.merge.merge_row_core.Goals as goal

pub left_by-requires : goal.left_by-requires
left_by-requires g c = merge-short _ _ _ _ _ _ _ c.merge_row.result c.merge_row.ensures.0

pub returns : goal.returns
returns g c =
    let merge = c.merge_row in (
      (search (rules, all-bytes), search (rules, all-bytes), merge.result, merge.ensures.0, c.left_by.ensures),
      merged-left merge.new.plan merge.result merge.new.row merge.ensures.1 c.left_by.result c.left_by.ensures,
    )
