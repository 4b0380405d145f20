-- `put_column`: the index between its marks, and the tag where that ended.
use Rattle.definitions.specs.Bytes.Printed.{decimal}
use Rattle.printing.specs.Marks.{marked_number}
use Rattle.printing.proofs.Sequences.{both-written}
use Rattle.printing.proofs.openings.put_column.Goals as goal

pub returns : goal.returns
returns c =
    let put = c.put_marked-v in
    both-written (marked_number 99 c.args.index 58) (decimal c.args.tag) c.requires put.ensures
    c.put_decimal.ensures
