-- What the answers about a node's head say.
use Rattle.std.specs.Prelude.{ℕ, ◌+◌, ◌≡◌, length}
use Rattle.definitions.specs.Words.Expression.{Expr, count}
use Rattle.expression.specs.Nodes.{head_bytes, children_of}
use Rattle.expression.specs.declared.heads.Head.{Head}

-- Where the children of the node t at a place begin, and how many there are.
pub record HeadIs (at : ℕ) (r : Head) (t : Expr) : Type 0 where
  pub next : r.next ≡ at + length (head_bytes t)
  pub children : r.children ≡ count (children_of t)
