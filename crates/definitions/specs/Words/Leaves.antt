-- AND-leaves, the names and comparisons that they are read by, and the arity that they need (refusal 8).
use Rattle.std.specs.Prelude.{ℕ, Bool, true, ◌||◌, List, [], ◌∷◌, ◌++◌, leb, eqb, if◌then◌else◌}
use Rattle.std.proofs.Math.Option.{Option, none, some}
use Rattle.definitions.specs.Words.Basics.{given◌then◌else◌, ascii, same_name, any, all}
use Rattle.definitions.specs.Words.Expression.{Relation, Named, relations, Expr, column, literal, and, binary, call, other, field, Exprs, count, function_of, binary_of}

-- The nodes reached from the root through And nodes only, left to right.
unfoldable pub leaves : Expr → List Expr
leaves (column index tag) = column index tag ∷ []
leaves (literal type bytes) = literal type bytes ∷ []
leaves (and l r) = leaves l ++ leaves r
leaves (binary operator l r) = binary operator l r ∷ []
leaves (call name arguments) = call name arguments ∷ []
leaves (other tag children) = other tag children ∷ []
leaves (field bits tag) = field bits tag ∷ []

-- The first type in a list that has this name; names are compared byte by byte.
unfoldable pub type_named : List Named → (name : List ℕ) → Option Relation
type_named [] name = none
type_named (one ∷ more) name = if any (λ text. same_name name (ascii text)) one.names then some one.type else type_named more name

-- The type of a relation name.
unfoldable pub relation_named : (name : List ℕ) → Option Relation
relation_named name = type_named relations name

-- A comparison: the side on which `st_distance` is looked for, and the other, its bound.
pub data Comparison : Type 0 where
  compares : (measured bound : Expr) → Comparison
  no_comparison : Comparison

-- Lt and LtEq (1, 2) look for `st_distance` on the left, Gt and GtEq (3, 4) on the right.
unfoldable pub comparison : (operator : ℕ) → (l r : Expr) → Comparison
comparison operator l r =
    if eqb operator 1 || eqb operator 2 then compares l r else
    if eqb operator 3 || eqb operator 4 then compares r l else
    no_comparison

-- The arguments of an `st_distance` call.
unfoldable pub distance_arguments : Expr → Option Exprs
distance_arguments e =
    given function_of e then (λ f. if same_name f.name (ascii "st_distance") then some f.arguments else none) else
    none

-- ---- arity

-- A function of relation name needs 2 arguments.
unfoldable pub relation_arity : (arguments : ℕ) → Option Relation → Bool
relation_arity arguments none = true
relation_arity arguments (some type) = leb 2 arguments

-- `st_dwithin` needs 3 arguments.
unfoldable pub call_arity : (name : List ℕ) → (arguments : ℕ) → Bool
call_arity name arguments =
    if same_name name (ascii "st_dwithin") then leb 3 arguments else relation_arity arguments (relation_named name)

-- An `st_distance` that is compared needs 2 arguments.
unfoldable pub distance_arity : Option Exprs → Bool
distance_arity none = true
distance_arity (some arguments) = leb 2 (count arguments)

-- A comparison is asked on the side that is read.
unfoldable pub comparison_arity : Comparison → Bool
comparison_arity no_comparison = true
comparison_arity (compares measured bound) = distance_arity (distance_arguments measured)

-- Whether a leaf has the arguments that it needs.
unfoldable pub leaf_arity : Expr → Bool
leaf_arity e =
    given function_of e then (λ f. call_arity f.name (count f.arguments)) else
    given binary_of e then (λ b. comparison_arity (comparison b.operator b.l b.r)) else
    true

-- Whether every AND-leaf has the arguments that it needs.
unfoldable pub arity : Expr → Bool
arity e = all leaf_arity (leaves e)
