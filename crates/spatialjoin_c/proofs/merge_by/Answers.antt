-- Right because the core says what is left to put, the row begins with these records, and `put_nodes` puts them.
use borrow.Author.Rules.{rules}
use native.Mathlib.Omega.{arith}
use lib.ListN.{length-map}
use lib.Seq.{length-take-le}
use mir.Syntax.{w64}
use mir.Val.{SFits}
use mir.Facts.{to_z-of_z}
use Rattle.node_table.specs.Records.{node_of, nodes_of}
use Rattle.host_calls.proofs.CoreLaws.{merge-asks, merge-fills}
use Rattle.spatialjoin_c.proofs.merge_by.Goals as goal

pub put_nodes-requires : goal.put_nodes-requires
put_nodes-requires g c =
    let core = c.merge_row_core-merged in
    omega (
      arith,
      length-take-le core.result.count core.new.row core.ensures.1.0,
      merge-asks _ _ _ _ _ _ core.result (nodes_of c.args.table.now) (length-map c.args.table.now node_of) core.ensures.0,
    )

pub returns : goal.returns
returns g c =
    let core = c.merge_row_core-merged in
    let fits : SFits w64 core.result.answer = search rules in
    simp to_z-of_z (merge-fills _ _ _ _ _ _ core.result c.args.table.now (length-map c.args.table.now node_of) core.ensures.0 _ _
    core.ensures.1 c.put_nodes.ensures)
