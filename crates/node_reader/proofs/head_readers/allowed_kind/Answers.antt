-- Each sort of columns has its line of the definition.
use borrow.Author.Tests.{le-leb, lt-leb}
use Rattle.definitions.specs.Bytes.Decode.{allowed_kind}
use Rattle.node_reader.proofs.Children.{physical, logical}
use Rattle.node_reader.proofs.head_readers.allowed_kind.Goals as goal

pub returns-then-this-eq-COLUMN : goal.returns-then-this-eq-COLUMN
unfolding allowed_kind
returns-then-this-eq-COLUMN g c =
    λ bound. rw (physical g.row.COLUMN bound c.if-this-eq-COLUMN.true)

pub returns-then-kind-ge-LITERAL : goal.returns-then-kind-ge-LITERAL
unfolding allowed_kind
returns-then-kind-ge-LITERAL g c =
    λ bound. rw (logical g.row.COLUMN bound c.if-this-eq-COLUMN.false, le-leb 1 c.args.kind c.if-kind-ge-LITERAL.true)

pub returns-else-kind-ge-LITERAL : goal.returns-else-kind-ge-LITERAL
unfolding allowed_kind
returns-else-kind-ge-LITERAL g c =
    λ bound. rw (logical g.row.COLUMN bound c.if-this-eq-COLUMN.false, lt-leb 1 c.args.kind c.if-kind-ge-LITERAL.false)
