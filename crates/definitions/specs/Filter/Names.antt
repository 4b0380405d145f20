-- What the logical call reads off a filter: which spatial names it has, and the query side of its first KNN call.
use Rattle.std.specs.Prelude.{ℕ, ◌+◌, ◌*◌, ◌/◌, ◌%◌, Bool, ◌&&◌, not, List, [], ◌∷◌, ◌++◌, leb, eqb, if◌then◌else◌}
use Rattle.std.proofs.Math.Option.{Option, none, some}
use Rattle.definitions.specs.Words.Basics.{given◌then◌else◌, ascii, same_name, any, all}
use Rattle.definitions.specs.Words.Expression.{Side, left, right, no_side, Expr, column, literal, and, binary, call, other, field, Exprs, nil, cons, function_of, binary_of}
use Rattle.definitions.specs.Words.Leaves.{Comparison, compares, no_comparison, comparison}

-- A name with its letters A to Z made small.
unfoldable pub lower_case : List ℕ → List ℕ
lower_case [] = []
lower_case (b ∷ s) = (if leb 65 b && leb b 90 then b + 32 else b) ∷ lower_case s

-- The 15 names, bit 0 first.
unfoldable pub spatial_names : List (List ℕ)
spatial_names =
    ascii "st_intersects" ∷ ascii "st_contains" ∷ ascii "st_within" ∷ ascii "st_covers" ∷ ascii "st_covered_by" ∷
    ascii "st_coveredby" ∷ ascii "st_touches" ∷ ascii "st_crosses" ∷ ascii "st_overlaps" ∷ ascii "st_equals" ∷
    ascii "st_dwithin" ∷ ascii "st_knn" ∷ ascii "rs_intersects" ∷ ascii "rs_contains" ∷ ascii "rs_within" ∷ []

-- The name of a function in small letters; no bytes for any other expression.
unfoldable pub function_name : Expr → List ℕ
function_name e = given function_of e then (λ f. lower_case f.name) else []

-- A comparison whose read side is `st_distance` counts as `st_dwithin`.
unfoldable pub comparison_name : Comparison → List ℕ
comparison_name no_comparison = []
comparison_name (compares measured bound) = if same_name (function_name measured) (ascii "st_distance") then ascii "st_dwithin" else []

-- The name that a leaf counts as; no bytes where there is none.
unfoldable pub leaf_name : Expr → List ℕ
leaf_name e =
    given function_of e then (λ f. lower_case f.name) else
    given binary_of e then (λ b. comparison_name (comparison b.operator b.l b.r)) else
    []

-- Which of the names are among the found ones, lowest bit first.
unfoldable pub mask : (names found : List (List ℕ)) → ℕ
mask [] found = 0
mask (name ∷ names) found = (if any (same_name name) found then 1 else 0) + 2 * mask names found

-- How many of the names are among the found ones.
unfoldable pub distinct : (names found : List (List ℕ)) → ℕ
distinct [] found = 0
distinct (name ∷ names) found = (if any (same_name name) found then 1 else 0) + distinct names found

-- ---- the query side

unfoldable mutual
  -- The bits of an expression's logical columns.
  pub bits_of : Expr → List ℕ
  bits_of (column index tag) = []
  bits_of (literal type bytes) = []
  bits_of (and l r) = bits_of l ++ bits_of r
  bits_of (binary operator l r) = bits_of l ++ bits_of r
  bits_of (call name arguments) = bits_of_all arguments
  bits_of (other tag children) = bits_of_all children
  bits_of (field bits tag) = bits ∷ []

  -- Those of several expressions.
  pub bits_of_all : Exprs → List ℕ
  bits_of_all nil = []
  bits_of_all (cons e es) = bits_of e ++ bits_of_all es

-- Bit 1: the left schema has the column.
unfoldable pub in_left : (bits : ℕ) → Bool
in_left bits = eqb (bits % 2) 1

-- Bit 2: the right schema has it.
unfoldable pub in_right : (bits : ℕ) → Bool
in_right bits = eqb (bits / 2) 1

-- The side whose schema has all columns while the other has not; none without columns.
unfoldable pub schema_side : (columns : List ℕ) → Side
schema_side [] = no_side
schema_side (c ∷ cs) =
    if all in_left (c ∷ cs) && not (all in_right (c ∷ cs)) then left else
    if all in_right (c ∷ cs) && not (all in_left (c ∷ cs)) then right else
    no_side

-- The side of a call's first argument; none without an argument.
unfoldable pub first_argument_side : Exprs → Side
first_argument_side nil = no_side
first_argument_side (cons e es) = schema_side (bits_of e)

-- The arguments of an `st_knn` call.
unfoldable pub knn_arguments : Expr → Option Exprs
knn_arguments e =
    given function_of e then (λ f. if same_name (lower_case f.name) (ascii "st_knn") then some f.arguments else none) else
    none

-- The side that an `st_knn` call gives, else the later leaves'.
unfoldable pub query_side_from : Option Exprs → (later : Side) → Side
query_side_from none later = later
query_side_from (some arguments) later = first_argument_side arguments

-- The query side of the first AND-leaf that is an `st_knn` call, and of no later one.
unfoldable pub query_side : (leaves : List Expr) → Side
query_side [] = no_side
query_side (e ∷ es) = query_side_from (knn_arguments e) (query_side es)
