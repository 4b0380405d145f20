-- `end_node`: an expression is a row of one.
use Rattle.expression.proofs.EndWalk.{one-there, one-ends}
use Rattle.expression.proofs.ends.end_node.Goals as goal

pub end_children-requires : goal.end_children-requires
end_children-requires c =
    one-there c.requires

pub returns : goal.returns
returns c =
    one-ends c.end_children.ensures
