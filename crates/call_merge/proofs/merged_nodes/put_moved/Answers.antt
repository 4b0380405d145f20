-- Right because a turn puts the record at place i, moved, at place i of the row.
use native.Mathlib.Omega.{arith}
use mathlib.Core.Path.{ap, ◌∙◌}
use mathlib.Core.List.{List, ◌++◌, map}
use lib.ListN.{drop, length, length-take, length-map}
use lib.Seq.{take_all}
use Rattle.node_table.specs.Records.{blank}
use Rattle.node_table.specs.declared.NodeRecord.{NodeRecord as Lent}
use Rattle.node_table.proofs.Filling.{by-places}
use Rattle.call_merge.specs.MergedNodes.{moved}
use Rattle.call_merge.proofs.merged_nodes.put_moved.Goals as goal

pub returns : goal.returns
returns c =
    let a = c.args in
    let size = length-take (length a.nodes.now) a.row.now in
    ap (λ (l : List Lent). l ++ drop (length a.nodes.now) a.row.now)
    (by-places (moved a.by) blank blank (length a.nodes.now) a.nodes.now c.loop-i.place-items
    (omega (arith, c.loop-i.auto.place-items, size, c.requires.0)) (omega arith)
    (λ j h. c.loop-i.invariant j (omega (arith, c.loop-i-test.false, size, c.requires.0)))
    ∙ take_all (length a.nodes.now) (map (moved a.by) a.nodes.now) (omega (arith, length-map a.nodes.now (moved a.by))))
