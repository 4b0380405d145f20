-- A node as its head, the bytes before its children, and its children; where an expression stands.
use Rattle.std.specs.Prelude.{ℕ, ◌+◌, ◌≡◌, List, [], ◌∷◌, ◌++◌, length}
use Rattle.definitions.specs.Words.Basics.{big_endian}
use Rattle.definitions.specs.Words.Expression.{Expr, column, literal, and, binary, call, other, field, Exprs, nil, cons, count}
use Rattle.definitions.specs.Bytes.Encode.{expr_bytes, exprs_bytes}
use Rattle.definitions.specs.Bytes.Decode.{Columns}
use Rattle.definitions.specs.Bytes.Good.{InRange, InRangeAll}
use Rattle.expression.specs.Places.{Holds}

-- The bytes of a node before its children.
unfoldable pub head_bytes : Expr → List ℕ
head_bytes (column index tag) = 0 ∷ (big_endian 2 index ++ big_endian 2 tag)
head_bytes (literal type value) = 1 ∷ type ∷ big_endian 8 value
head_bytes (and l r) = 2 ∷ 0 ∷ []
head_bytes (binary operator l r) = 2 ∷ operator ∷ []
head_bytes (call name arguments) = 3 ∷ length name ∷ (name ++ (count arguments ∷ []))
head_bytes (other tag children) = 4 ∷ (big_endian 2 tag ++ (count children ∷ []))
head_bytes (field bits tag) = 5 ∷ bits ∷ big_endian 2 tag

-- The children that stand after the head.
unfoldable pub children_of : Expr → Exprs
children_of (column index tag) = nil
children_of (literal type value) = nil
children_of (and l r) = cons l (cons r nil)
children_of (binary operator l r) = cons l (cons r nil)
children_of (call name arguments) = arguments
children_of (other tag children) = children
children_of (field bits tag) = nil

-- The first byte of a node.
unfoldable pub kind_of : Expr → ℕ
kind_of (column index tag) = 0
kind_of (literal type value) = 1
kind_of (and l r) = 2
kind_of (binary operator l r) = 2
kind_of (call name arguments) = 3
kind_of (other tag children) = 4
kind_of (field bits tag) = 5

-- An expression stands at a place, its fields in their ranges.
pub record Stands (c : Columns) (s : List ℕ) (at : ℕ) (t : Expr) : Type 0 where
  pub bytes : Holds s at (expr_bytes t)
  pub in_range : InRange c t

-- An expression stands from a place up to its end.
pub record Spans (c : Columns) (s : List ℕ) (at end : ℕ) (t : Expr) : Type 0 where
  pub stands : Stands c s at t
  pub ends : end ≡ at + length (expr_bytes t)

-- n expressions stand in a row.
pub record Row (c : Columns) (s : List ℕ) (at n : ℕ) (ts : Exprs) : Type 0 where
  pub bytes : Holds s at (exprs_bytes ts)
  pub in_range : InRangeAll c ts
  pub counted : count ts ≡ n

-- Some expression stands there; what is claimed of it. It is claimed of each that stands there, and only one can.
abbrev pub Tree : List ℕ → ℕ → Type 0
Tree s at = (c : Columns) × (t : Expr) × Stands c s at t

abbrev pub OfTreeIn : List ℕ → ℕ → (Columns → Expr → Type 0) → Type 0
OfTreeIn s at P = (c : Columns) (t : Expr) → Stands c s at t → P c t

abbrev pub OfTree : List ℕ → ℕ → (Expr → Type 0) → Type 0
OfTree s at P = OfTreeIn s at (λ c. P)

-- The same of n expressions in a row.
abbrev pub Trees : List ℕ → ℕ → ℕ → Type 0
Trees s at n = (c : Columns) × (ts : Exprs) × Row c s at n ts

abbrev pub OfTrees : List ℕ → ℕ → ℕ → (Exprs → Type 0) → Type 0
OfTrees s at n P = (c : Columns) (ts : Exprs) → Row c s at n ts → P ts

-- Where the children of an And begin.
abbrev pub left_of : (at : ℕ) → ℕ
left_of at = at + 2

abbrev pub right_of : (at : ℕ) → (l : Expr) → ℕ
right_of at l = at + 2 + length (expr_bytes l)
