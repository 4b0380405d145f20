-- Kind, start and end are stored one after the other.
use Rattle.node_reader.proofs.RowStores.{leaf-put}
use Rattle.node_reader.proofs.visitors.FillVisit.leaf.Goals as goal

pub returns-then-i-row : goal.returns-then-i-row
returns-then-i-row c =
    leaf-put c.args.self.now c.args.i c.args.kind c.args.at c.args.end c.if-i-row.true
