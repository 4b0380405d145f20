-- The root is a row of one.
use Rattle.std.specs.Prelude.{Ok, Err}
use Rattle.node_reader.proofs.Reading.{kept}
use Rattle.node_reader.proofs.Visiting.{root-is}
use Rattle.node_reader.proofs.expressions.only_child.Goals as goal

pub returns-in_err-children-clause-read : goal.returns-in_err-children-clause-read
returns-in_err-children-clause-read g c =
    rw (kept c.from_residual.ensures)
    (root-is _ _ _ _ _ _ c.children.new.v (Err c.in_err-children.field-0.0) c.in_err-children.ensures.read)

pub returns-clause-read : goal.returns-clause-read
returns-clause-read g c =
    root-is _ _ _ _ _ _ c.children.new.v (Ok c.children.new.reached) c.in_ok-children.ensures.read
