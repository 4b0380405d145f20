-- `put_marked`: a character, the number after it, and a character where it ended.
use Rattle.printing.proofs.DecimalLaws.{marked-put}
use Rattle.printing.proofs.decimals.put_marked.Goals as goal

pub returns : goal.returns
returns c =
    let put = c.put_decimal-v in
    marked-put c.args.first _ c.args.last c.requires put.ensures put.auto.out
