-- `put_name`: the length between its marks, the name where that ended, and the bracket where the name did.
use Rattle.printing.proofs.openings.NameLaws.{name-put}
use Rattle.printing.proofs.openings.put_name.Goals as goal

pub returns : goal.returns
returns c =
    let put = c.put_marked-v in
    name-put c.args.name.now c.requires put.ensures put.auto.out c.copy_at-end.ensures
    c.copy_at-end.auto.out
