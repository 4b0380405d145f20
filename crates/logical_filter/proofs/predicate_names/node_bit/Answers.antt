-- `node_bit`: an operator is a comparison or has no name, a function has its own, and no other node has one.
use Rattle.definitions.specs.Bytes.Decode.{Columns}
use Rattle.definitions.specs.Words.Expression.{Expr}
use Rattle.expression.specs.Leaves.{NodeIs}
use Rattle.expression.specs.Nodes.{Stands}
use Rattle.expression.proofs.LeafLaws.{call-there}
use Rattle.filter_tree.specs.Trees.{Noded}
use Rattle.filter_tree.proofs.Scans.{noded-within}
use Rattle.filter_tree.proofs.Indexes.{both-noded}
use native.Mathlib.Omega.{arith}
use Rattle.logical_filter.proofs.AtIndex.{start-there, start-found}
use Rattle.logical_filter.proofs.NameWalk.{other-bit, call-bit}
use Rattle.logical_filter.proofs.predicate_names.node_bit.Goals as goal
use Rattle.logical_filter.proofs.predicate_names.node_bit.Goals.{After-node_at}
use Prim.Native.Nat.{ℕ}

-- What the node was found to be.
found : (c : After-node_at) (d : Columns) (p : ℕ) (t : Expr) → Stands d c.args.tree.bytes.now p t → Noded c.args.tree.nodes.now p c.args.i t
    → NodeIs d c.args.tree.bytes.now p c.node_at.result t
found c = start-found c.start.ensures (λ q k u. NodeIs k c.args.tree.bytes.now q c.node_at.result u) c.node_at.ensures

pub node_at-requires : goal.node_at-requires
node_at-requires c = start-there c.start.ensures c.requires

pub overflow_add-i : goal.overflow_add-i
overflow_add-i c = omega (arith, c.well_formed, noded-within c.requires.4)

pub comparison_bit-requires : goal.comparison_bit-requires
comparison_bit-requires c =
    let r = c.requires in
    let both = rw c.in-Binary.is at (found (goal.at.comparison_bit-requires c).After-node_at r.0 r.1 r.2 r.3 r.4) in
    (r.0, _, both.l, both.r, both.row, both-noded r.4 both)

pub returns-in-Binary : goal.returns-in-Binary
returns-in-Binary c = λ d p t stands h.
    let both = rw c.in-Binary.is at (found (goal.at.returns-in-Binary c).After-node_at d p t stands h) in
    rw both.is (c.comparison_bit.ensures d _ both.l both.r both.row (both-noded h both))

pub name-requires : goal.name-requires
name-requires c = call-there (start-there c.start.ensures c.requires) c.node_at.ensures c.in-Call.is

pub returns-in-Call : goal.returns-in-Call
returns-in-Call c = λ d p t stands h.
    call-bit (rw c.in-Call.is at (found (goal.at.returns-in-Call c).After-node_at d p t stands h))
    (rw c.name.ensures at c.spatial_bit.ensures)

pub returns-in_default : goal.returns-in_default
returns-in_default c = λ d p t stands h.
    other-bit d _ p t c.node_at.result c.in_default.not-Binary c.in_default.not-Call
    (found (goal.at.returns-in_default c).After-node_at d p t stands h)
