-- Right because it is the load with its answer as one number.
use Rattle.std.proofs.Common.{rules}
use Rattle.node_reader.proofs.Standing.{all-bytes}
use Rattle.host_calls.proofs.CoreLaws.{load-short, row-left}
use Rattle.host_calls.proofs.load.load_core.Goals as goal

pub left_by-requires : goal.left_by-requires
left_by-requires c = load-short _ _ _ _ c.load_row.result c.load_row.ensures.0 (search (rules, all-bytes))

pub returns : goal.returns
returns c = (
  (search (rules, all-bytes), c.load_row.result, c.load_row.ensures.0, c.left_by.ensures),
  row-left c.args.frame.now c.load_row.result _ c.load_row.ensures.1 c.left_by.result
      c.left_by.ensures,
)
