-- `is_and`: as its definition says.
use Prim.Native.Nat.{ℕ, ◌+◌}
use mathlib.Core.Path.{sym}
use lib.ListN.{length}
use borrow.Author.Tests.{eq-eqb, ne_eqb, lt-ltb, le-ltb}
use Rattle.filter_tree.specs.Spines.{and_record}
use Rattle.filter_tree.proofs.spine.is_and.Goals as goal

pub returns-then-node-ne-BINARY : goal.returns-then-node-ne-BINARY
unfolding and_record
returns-then-node-ne-BINARY c = rw (ne_eqb c.args.node.kind 2 c.if-node-ne-BINARY.true)

pub returns-then-operator-s : goal.returns-then-operator-s
unfolding and_record
returns-then-operator-s c =
    let place : ℕ = c.from-operator.result + 1 in
    rw (
      eq-eqb c.args.node.kind 2 c.if-node-ne-BINARY.false,
      sym c.from-operator.ensures,
      lt-ltb place (length c.args.s.now) c.if-operator-s.true,
    )

pub returns-else-operator-s : goal.returns-else-operator-s
unfolding and_record
returns-else-operator-s c =
    let place : ℕ = c.from-operator.result + 1 in
    rw (
      eq-eqb c.args.node.kind 2 c.if-node-ne-BINARY.false,
      sym c.from-operator.ensures,
      le-ltb place (length c.args.s.now) c.if-operator-s.false,
    )
