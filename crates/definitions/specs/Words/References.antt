-- The columns that an expression references, and their records.
use Rattle.std.specs.Prelude.{ℕ, Bool, true, false, List, [], ◌∷◌, ◌++◌, get_or}
use Rattle.definitions.specs.Words.Expression.{Side, left, right, no_side, Expr, column, literal, and, binary, call, other, field, Exprs, nil, cons, Record}

unfoldable mutual
  -- The indexes of an expression's column nodes, in prefix order.
  pub columns_of : Expr → List ℕ
  columns_of (column index tag) = index ∷ []
  columns_of (literal type bytes) = []
  columns_of (and l r) = columns_of l ++ columns_of r
  columns_of (binary operator l r) = columns_of l ++ columns_of r
  columns_of (call name arguments) = columns_of_all arguments
  columns_of (other tag children) = columns_of_all children
  columns_of (field bits tag) = []

  -- Those of several expressions.
  pub columns_of_all : Exprs → List ℕ
  columns_of_all nil = []
  columns_of_all (cons e es) = columns_of e ++ columns_of_all es

-- The record of a column index. (Never seen past the last, because such an index is refused with 6.)
unfoldable pub record_at : List Record → (index : ℕ) → Record
record_at records index = get_or records index (record { side = no_side; child = 0; tag = 0 })

-- Whether two sides are the same.
unfoldable pub same_side : Side → Side → Bool
same_side left left = true
same_side left right = false
same_side left no_side = false
same_side right left = false
same_side right right = true
same_side right no_side = false
same_side no_side left = false
same_side no_side right = false
same_side no_side no_side = true

unfoldable mutual
  -- The expression with each column index changed.
  pub map_columns : (ℕ → ℕ) → Expr → Expr
  map_columns f (column index tag) = column (f index) tag
  map_columns f (literal type bytes) = literal type bytes
  map_columns f (and l r) = and (map_columns f l) (map_columns f r)
  map_columns f (binary operator l r) = binary operator (map_columns f l) (map_columns f r)
  map_columns f (call name arguments) = call name (map_columns_all f arguments)
  map_columns f (other tag children) = other tag (map_columns_all f children)
  map_columns f (field bits tag) = field bits tag

  -- Several expressions with each column index changed.
  pub map_columns_all : (ℕ → ℕ) → Exprs → Exprs
  map_columns_all f nil = nil
  map_columns_all f (cons e es) = cons (map_columns f e) (map_columns_all f es)
