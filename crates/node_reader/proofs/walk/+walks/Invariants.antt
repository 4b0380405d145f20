-- Nodes left to count fall.
use Prim.Native.Nat.{◌+◌, ◌-◌, ◌*◌}
use Rattle.definitions.specs.Bytes.Decode as decode
use Rattle.node_reader.specs.Heads.{columns_in}
use Rattle.node_reader.proofs.Visiting.{InAnyVisits}
use Rattle.node_reader.proofs.walk.+walks.Given as goal

abbrev pub invariant-children-loop : goal.invariant-children-loop
invariant-children-loop g l =
    InAnyVisits g.V.Visit.deeds l.source.bytes.now l.initial.reached.next l.initial.reached.count
    l.many (decode.node (columns_in g.row.COLUMN l.source.bound) l.levels) l.initial.v l.here.next l.here.count l.counter l.v

abbrev pub decreases-node : goal.decreases-node
decreases-node g l = 2 * (1024 - l.here.count)

abbrev pub decreases-children : goal.decreases-children
decreases-children g l = 2 * (1024 - l.reached.now.count) + 1
