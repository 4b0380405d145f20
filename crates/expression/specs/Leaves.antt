-- What a node is found to be.
use Rattle.std.specs.Prelude.{ℕ, ◌+◌, ◌≤◌, ◌≡◌, List, length}
use Rattle.definitions.specs.Words.Expression.{Expr, column, literal, and, binary, call, other, field, Exprs, nil, cons}
use Rattle.definitions.specs.Bytes.Decode.{Columns}
use Rattle.expression.specs.Places.{part}
use Rattle.expression.specs.Nodes.{head_bytes, children_of, Row}
use Rattle.expression.specs.Heads.{HeadIs}
use Rattle.expression.specs.declared.leaves.Called.{Called}
use Rattle.expression.specs.declared.leaves.Node.{Node}
use Rattle.expression.specs.declared.leaves.Node.TheVariants.{And, Binary, Call, Plain}

-- A node of two children, made of them by `build`: they stand in a row from `first` on.
pub record Both (build : Expr → Expr → Expr) (c : Columns) (s : List ℕ) (at first : ℕ) (t : Expr) : Type 0 where
  pub l : Expr
  pub r : Expr
  pub is : t ≡ build l r
  pub children : children_of t ≡ cons l (cons r nil)
  pub begins : first ≡ at + length (head_bytes t)
  pub row : Row c s first 2 (cons l (cons r nil))

-- A name and arguments stand where a function's do.
pub record CallStands (c : Columns) (s : List ℕ) (k : Called) (name : List ℕ) (arguments : Exprs) : Type 0 where
  pub low : k.name ≤ k.end
  pub high : k.end ≤ length s
  pub spelling : part s k.name k.end ≡ name
  pub row : Row c s k.first k.count arguments

-- Some name and arguments stand there; what is claimed of them.
abbrev pub Calls : List ℕ → Called → Type 0
Calls s k = (c : Columns) × (name : List ℕ) × (arguments : Exprs) × CallStands c s k name arguments

abbrev pub OfCall : List ℕ → Called → (Columns → List ℕ → Exprs → Type 0) → Type 0
OfCall s k P = (c : Columns) (name : List ℕ) (arguments : Exprs) → CallStands c s k name arguments → P c name arguments

-- A function.
pub record CallIs (c : Columns) (s : List ℕ) (at : ℕ) (k : Called) (t : Expr) : Type 0 where
  pub name : List ℕ
  pub arguments : Exprs
  pub is : t ≡ call name arguments
  pub begins : k.first ≡ at + length (head_bytes t)
  pub stands : CallStands c s k name arguments

-- Neither an operator nor a function.
pub data PlainNode : Expr → Type 0 where
  plain_column : {index tag : ℕ} → PlainNode (column index tag)
  plain_literal : {type bytes : ℕ} → PlainNode (literal type bytes)
  plain_other : {tag : ℕ} {children : Exprs} → PlainNode (other tag children)
  plain_field : {bits tag : ℕ} → PlainNode (field bits tag)

-- What the answer says of the node t at a place.
abbrev pub NodeIs : Columns → (s : List ℕ) → (at : ℕ) → Node → Expr → Type 0
NodeIs c s at (And first) t = Both and c s at first t
NodeIs c s at (Binary operator first) t = Both (binary operator) c s at first t
NodeIs c s at (Call k) t = CallIs c s at k t
NodeIs c s at (Plain head) t = PlainNode t × HeadIs at head t
