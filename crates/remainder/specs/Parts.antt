-- Where the records of an expression end, if that is known.
use Rattle.std.specs.Prelude.{ℕ, ◌+◌, ◌≡◌, List, Option, IfSome}
use Rattle.definitions.specs.Words.Expression.{Expr}
use Rattle.definitions.specs.Bytes.Good.{nodes}
use Rattle.node_table.specs.declared.NodeRecord.{NodeRecord as Lent}
use Rattle.filter_tree.specs.Trees.{Noded, Node, RowUpTo}

-- The records of the expression at a place begin at an index, and end before another.
abbrev pub PartIs : List Lent → (at i : ℕ) (past : Option ℕ) → Expr → Type 0
PartIs row at i past t = Noded row at i t × IfSome past (λ p. p ≡ i + nodes t)

-- The left side of an And has an index, and the records of both sides end before another.
abbrev pub SidesAre : List Lent → (left : ℕ) (past : Option ℕ) → Type 0
SidesAre row left past = Node row left × IfSome past (RowUpTo row left)
