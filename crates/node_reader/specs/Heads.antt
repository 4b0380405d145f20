-- What the answers about a node's head say of the definitions' readers.
use Rattle.std.specs.Prelude.{ℕ, zero, suc, ◌≤◌, ◌≡◌, List, length, drop, get_or, Result, Ok, Err, if◌then◌else◌, ltb, ◌&&◌}
use Rattle.definitions.specs.Words.Limits.{most_children}
use Rattle.definitions.specs.Words.Expression.{Expr, Exprs, count}
use Rattle.definitions.specs.Bytes.Readers.{stopped, Reader, continue, ◌>>◌, give, require}
use Rattle.definitions.specs.Bytes.Decode as decode
use Rattle.expression.specs.Nodes.{children_of}
use Rattle.terms.specs.Refusals.{number_of}
use Rattle.terms.specs.declared.refusals.Refusal.{Refusal}
use Rattle.node_reader.specs.declared.call_heads.Columns.{Columns}
use Rattle.node_reader.specs.declared.call_heads.Columns.TheVariants.{Below, Fields}
use Rattle.expression.specs.declared.heads.Head.{Head}

-- What a frame's sort says of its columns.
abbrev pub columns_of : Columns → decode.Columns
columns_of (Below bound) = decode.index_below bound
columns_of Fields = decode.fields

-- Those of a walk, by the kind of a column: physical ones below a bound, or logical ones.
abbrev pub columns_in : (column bound : ℕ) → decode.Columns
columns_in zero bound = decode.index_below bound
columns_in (suc column) bound = decode.fields

-- A node's fields were read: the rest of the node is its children, and `build` makes the node that has them.
abbrev pub HeadIs : List ℕ → (at : ℕ) → Result Head Refusal → ((child : Reader Expr) → Reader Expr) → Type 0
HeadIs s at (Ok head) reader =
    (head.next ≤ length s) × (build : Exprs → Expr)
    × ((child : Reader Expr) (n : ℕ)
    → reader child n (drop at s)
    ≡ continue (decode.repeat_exprs head.children child n (drop head.next s)) (λ es. give (build es)))
    × ((es : Exprs) → count es ≡ head.children → children_of (build es) ≡ es) × (head.children ≤ most_children)
HeadIs s at (Err why) reader = (child : Reader Expr) (n : ℕ) → reader child n (drop at s) ≡ stopped (number_of why)

-- The fields of a kind that may not stand in the frame.
abbrev pub any_kind : decode.Columns → (kind : ℕ) → (child : Reader Expr) → Reader Expr
any_kind c kind child = require 4 (decode.allowed_kind c kind) >> decode.node_of_kind c child kind

-- A kind that is no literal, no operator, no call and no other node.
abbrev pub OtherKind : (kind : ℕ) → Type 0
OtherKind kind = (kind ≡ 1 → ⊥) × (kind ≡ 2 → ⊥) × (kind ≡ 3 → ⊥) × (kind ≡ 4 → ⊥)

-- The refusal of a node that is beyond a limit.
abbrev pub BeyondIs : List ℕ → (at : ℕ) → decode.Columns → Refusal → Type 0
BeyondIs s at c why = number_of why ≡ (if decode.allowed_kind c (get_or s at 0) then 5 else 4)

-- The refusal of fields that are cut off, of which the first is to be at most `most`: for that field, if it is there.
abbrev pub CutFieldIs : List ℕ → (at most : ℕ) → Refusal → Type 0
CutFieldIs s at most why = number_of why ≡ (if ltb at (length s) && ltb most (get_or s at 0) then 4 else 3)
