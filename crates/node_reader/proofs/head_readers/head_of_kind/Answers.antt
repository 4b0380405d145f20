-- Each kind's arm is its line of the definition.
use native.Mathlib.Omega.{arith}
use Rattle.node_reader.specs.Heads.{columns_in}
use Rattle.definitions.specs.Bytes.Decode.{node_of_kind}
use Rattle.node_reader.proofs.Children.{allowed-head, always}
use Rattle.node_reader.proofs.head_readers.head_of_kind.Goals as goal

pub returns-in-1 : goal.returns-in-1
unfolding node_of_kind
returns-in-1 g c =
    allowed-head (columns_in g.row.COLUMN c.args.source.now.bound) _ _ c.args.kind _ (always _ _ (omega arith) (omega arith))
    (rw c.in-1.is c.literal_head.ensures)

pub returns-in-2 : goal.returns-in-2
unfolding node_of_kind
returns-in-2 g c =
    allowed-head (columns_in g.row.COLUMN c.args.source.now.bound) _ _ c.args.kind _ (always _ _ (omega arith) (omega arith))
    (rw c.in-2.is c.binary_head.ensures)

pub returns-in-3 : goal.returns-in-3
unfolding node_of_kind
returns-in-3 g c =
    allowed-head (columns_in g.row.COLUMN c.args.source.now.bound) _ _ c.args.kind _ (always _ _ (omega arith) (omega arith))
    (rw c.in-3.is c.call_head.ensures)

pub returns-in-4 : goal.returns-in-4
unfolding node_of_kind
returns-in-4 g c =
    allowed-head (columns_in g.row.COLUMN c.args.source.now.bound) _ _ c.args.kind _ (always _ _ (omega arith) (omega arith))
    (rw c.in-4.is c.other_head.ensures)
