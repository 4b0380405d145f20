-- What the answer about a node's head says of the definitions' reader of nodes.
use Rattle.std.specs.Prelude.{ℕ, zero, suc, ◌+◌, ◌-◌, ◌≤◌, ◌<◌, ◌≡◌, List, length, drop, Result, Ok, Err}
use Rattle.definitions.specs.Words.Limits.{most_nodes, most_children}
use Rattle.definitions.specs.Words.Expression as tree
use Rattle.definitions.specs.Words.Expression.{Expr, Exprs}
use Rattle.definitions.specs.Bytes.Readers.{stopped, continue, give}
use Rattle.definitions.specs.Bytes.Decode.{Columns, node, repeat_exprs}
use Rattle.terms.specs.Refusals.{number_of}
use Rattle.terms.specs.declared.refusals.Refusal.{Refusal}
use Rattle.expression.specs.Nodes.{children_of}
use Rattle.expression.specs.declared.heads.Head.{Head}

-- How many nodes may be counted before one with this many levels left.
abbrev pub most_at : (levels : ℕ) → ℕ
most_at zero = 0
most_at (suc levels) = most_nodes

-- A node below the limits is its children, one more counted and one level less, and what `build` makes of them.
abbrev pub NodeHead : List ℕ → (at levels count : ℕ) → Columns → Result Head Refusal → Type 0
NodeHead s at levels count c (Ok head) =
    (head.next ≤ length s) × (build : Exprs → Expr)
    × (node c levels count (drop at s)
    ≡ continue (repeat_exprs head.children (node c (levels - 1)) (count + 1) (drop head.next s)) (λ es. give (build es)))
    × ((es : Exprs) → tree.count es ≡ head.children → children_of (build es) ≡ es) × (0 < levels) × (count < most_nodes)
    × (head.children ≤ most_children)
NodeHead s at levels count c (Err why) = node c levels count (drop at s) ≡ stopped (number_of why)
