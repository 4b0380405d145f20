-- A printed node: its own characters before its children, between them and after them.
use Rattle.std.specs.Prelude.{ℕ, zero, suc, ◌+◌, ◌-◌, ◌≤◌, ◌≡◌, List, [], ◌∷◌, ◌++◌, length}
use Rattle.definitions.specs.Words.Basics.{ascii, digits}
use Rattle.definitions.specs.Words.Expression.{Expr, column, literal, and, binary, call, other, field, count}
use Rattle.definitions.specs.Bytes.Decode.{index_below}
use Rattle.definitions.specs.Bytes.Printed.{decimal_width, decimal, printed}
use Rattle.expression.specs.Nodes.{children_of, Stands}

-- There is room for a text from w on.
pub record TextFits (w : ℕ) (text out : List ℕ) : Type 0 where
  pub room : w + length text ≤ length out

-- A number between two characters.
abbrev pub marked_number : (first n last : ℕ) → List ℕ
marked_number first n last = first ∷ (decimal n ++ (last ∷ []))

-- A column: `c`, index, `:`, tag.
abbrev pub column_text : (index tag : ℕ) → List ℕ
column_text index tag = marked_number 99 index 58 ++ decimal tag

-- A literal of these bytes: `#`, type, `:`, digits.
abbrev pub literal_text : (type : ℕ) → (bytes : List ℕ) → List ℕ
literal_text type bytes = marked_number 35 type 58 ++ digits bytes

-- A function up to its arguments: `f`, name length, `:`, name, `[`.
abbrev pub name_text : (name : List ℕ) → List ℕ
name_text name = marked_number 102 (length name) 58 ++ (name ++ (91 ∷ []))

-- The number that a node's text begins with: index, type, operator, name length or tag.
unfoldable pub leading_of : Expr → ℕ
leading_of (column index tag) = index
leading_of (literal type bytes) = type
leading_of (and l r) = 0
leading_of (binary operator l r) = operator
leading_of (call name arguments) = length name
leading_of (other tag children) = tag
leading_of (field bits tag) = bits

-- What stands before a node's children; all of it where it can have none.
unfoldable pub opening_of : Expr → List ℕ
opening_of (column index tag) = printed (column index tag)
opening_of (literal type bytes) = printed (literal type bytes)
opening_of (and l r) = ascii "("
opening_of (binary operator l r) = ascii "("
opening_of (call name arguments) = ascii "f" ++ (decimal (length name) ++ (ascii ":" ++ (name ++ ascii "[")))
opening_of (other tag children) = ascii "x" ++ (decimal tag ++ ascii "[")
opening_of (field bits tag) = []

-- Between a binary's children.
abbrev pub operator_text : (operator : ℕ) → List ℕ
operator_text operator = ascii " o" ++ (decimal operator ++ ascii " ")

-- What stands between a node's children.
unfoldable pub separator_of : Expr → List ℕ
separator_of (column index tag) = ascii ","
separator_of (literal type bytes) = ascii ","
separator_of (and l r) = operator_text 0
separator_of (binary operator l r) = operator_text operator
separator_of (call name arguments) = ascii ","
separator_of (other tag children) = ascii ","
separator_of (field bits tag) = ascii ","

-- What stands before the child of a position: nothing before the first.
unfoldable pub before_of : (position : ℕ) → Expr → List ℕ
before_of zero t = []
before_of (suc position) t = separator_of t

-- What stands after a node's children.
unfoldable pub closing_of : Expr → List ℕ
closing_of (column index tag) = []
closing_of (literal type bytes) = []
closing_of (and l r) = ascii ")"
closing_of (binary operator l r) = ascii ")"
closing_of (call name arguments) = ascii "]"
closing_of (other tag children) = ascii "]"
closing_of (field bits tag) = []

-- How many characters a node has besides those of its children.
unfoldable pub own_size : Expr → ℕ
own_size (column index tag) = 2 + decimal_width index + decimal_width tag
own_size (literal type bytes) = 18 + decimal_width type
own_size (and l r) = 5 + decimal_width 0
own_size (binary operator l r) = 5 + decimal_width operator
own_size (call name arguments) = 4 + decimal_width (length name) + length name + (count arguments - 1)
own_size (other tag children) = 3 + decimal_width tag + (count children - 1)
own_size (field bits tag) = 0

-- An expression of a physical frame stands at a place: its columns are below some bound.
pub record PhysicalAt (s : List ℕ) (at : ℕ) (t : Expr) : Type 0 where
  pub bound : ℕ
  pub stands : Stands (index_below bound) s at t

-- Some does; what is claimed of it.
abbrev pub Physical : (s : List ℕ) → (at : ℕ) → Type 0
Physical s at = (t : Expr) × PhysicalAt s at t

abbrev pub OfPhysical : (s : List ℕ) → (at : ℕ) → (Expr → Type 0) → Type 0
OfPhysical s at P = (t : Expr) → PhysicalAt s at t → P t

-- The same of one with so many children.
abbrev pub PhysicalWith : (s : List ℕ) → (at children : ℕ) → Type 0
PhysicalWith s at children = (t : Expr) × PhysicalAt s at t × (children ≡ count (children_of t))

abbrev pub OfPhysicalWith : (s : List ℕ) → (at children : ℕ) → (Expr → Type 0) → Type 0
OfPhysicalWith s at children P = OfPhysical s at (λ t. children ≡ count (children_of t) → P t)
