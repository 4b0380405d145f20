-- Each sort of columns has its kind, and no other kind is left.
use Prim.Native.Nat.{◌+◌}
use Rattle.definitions.specs.Bytes.Decode.{any_column, allowed_kind}
use Rattle.node_reader.specs.Heads.{columns_in}
use Rattle.node_reader.proofs.Children.{physical, logical, column-head, kind-refused, only-zero, only-five}
use Rattle.node_reader.proofs.head_readers.any_column_head.Goals as goal

pub returns-then-kind-eq-COLUMN : goal.returns-then-kind-eq-COLUMN
unfolding any_column allowed_kind
returns-then-kind-eq-COLUMN g c =
    let is = physical g.row.COLUMN c.args.source.now.bound c.if-this-eq-COLUMN.true in
    column-head (columns_in g.row.COLUMN c.args.source.now.bound) _ _ c.args.kind _ c.requires.other
    (rw (is, c.if-kind-eq-COLUMN.true)) (rw is c.column_head.ensures)

pub returns-then-kind-eq-FIELD : goal.returns-then-kind-eq-FIELD
unfolding any_column allowed_kind
returns-then-kind-eq-FIELD g c =
    let is = logical g.row.COLUMN c.args.source.now.bound c.if-this-eq-COLUMN.false in
    column-head (columns_in g.row.COLUMN c.args.source.now.bound) _ _ c.args.kind _ c.requires.other
    (rw (is, c.if-kind-eq-FIELD.true)) (rw is c.field_head.ensures)

pub returns-else-kind-eq-COLUMN : goal.returns-else-kind-eq-COLUMN
returns-else-kind-eq-COLUMN g c =
    let s = c.args.source.now in
    kind-refused (columns_in g.row.COLUMN s.bound) s.bytes.now (c.args.at + 1) c.args.kind
    (rw (physical g.row.COLUMN s.bound c.if-this-eq-COLUMN.true) (only-zero s.bound c.args.kind c.requires.other c.if-kind-eq-COLUMN.false))

pub returns-else-kind-eq-FIELD : goal.returns-else-kind-eq-FIELD
returns-else-kind-eq-FIELD g c =
    let s = c.args.source.now in
    kind-refused (columns_in g.row.COLUMN s.bound) s.bytes.now (c.args.at + 1) c.args.kind
    (rw (logical g.row.COLUMN s.bound c.if-this-eq-COLUMN.false) (only-five c.args.kind c.requires.other c.if-kind-eq-FIELD.false))
