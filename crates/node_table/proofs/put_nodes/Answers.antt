-- `put_nodes`: a turn puts the record i at place i of the table.
use native.Mathlib.Omega.{arith}
use mathlib.Core.Path.{ap}
use mathlib.Core.List.{List, ◌++◌}
use lib.ListN.{drop, length, length-take}
use Rattle.node_table.specs.declared.NodeRecord.{NodeRecord}
use Rattle.node_table.proofs.RecordLaws.{same-first}
use Rattle.node_table.proofs.put_nodes.Goals as goal

pub returns : goal.returns
returns c =
    let a = c.args in
    let n = length a.nodes.now in
    ap (λ (l : List NodeRecord). l ++ drop n a.table.now)
    (same-first a.nodes.now c.loop-i.place-items (omega (arith, c.loop-i.auto.place-items, length-take n a.table.now))
    (λ j h. c.loop-i.invariant j (omega (arith, c.loop-i-test.false, length-take n a.table.now))))
