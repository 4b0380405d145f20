-- `print_leaf`: what a leaf opens with is all of its text.
use Rattle.printing.proofs.PrintWalk.{opening-room, leaf-printed}
use Rattle.printing.proofs.texts.print_leaf.Goals as goal

pub put_opening-wrote-requires : goal.put_opening-wrote-requires
put_opening-wrote-requires c =
    opening-room c.requires.room

pub returns : goal.returns
returns c =
    let put = c.put_opening-wrote in
    let head = c.head_at-head in
    leaf-printed c.requires.room put.ensures put.auto.out head.result head.ensures c.requires.leaf
