-- What the answers about distances say of the definitions' requests.
use Rattle.std.specs.Prelude.{ℕ, ◌≡◌, Bool, true, false, ◌||◌, List, eqb, if◌then◌else◌, Option, Some, None}
use Rattle.std.proofs.Math.Option as optional
use Rattle.definitions.specs.Words.Expression.{Expr, Exprs}
use Rattle.definitions.specs.Words.Leaves as definitions
use Rattle.definitions.specs.Filter.Match.{Request, ask_relation, ask_distance, ask_knn, ask_nothing}
use Rattle.definitions.specs.Bytes.Decode.{Columns}
use Rattle.terms.specs.Forms.{form_number}
use Rattle.expression.specs.Nodes.{Row}
use Rattle.node_table.specs.declared.NodeRecord.{NodeRecord as Lent}
use Rattle.filter_tree.specs.Trees.{Indexed}
use Rattle.expression.specs.declared.leaves.Called.{Called}
use Rattle.sedona_expr.specs.declared.utils.Compared.{Compared}
use Rattle.sedona_expr.specs.declared.utils.ParsedDistancePredicate.{ParsedDistancePredicate}

-- ---- the side of a comparison that is read

-- Operators 1 and 2 read what is on the left, 3 and 4 what is on the right.
unfoldable pub compared : (operator left right : ℕ) → Option Compared
compared operator left right =
    if eqb operator 1 || eqb operator 2 then Some (record { measured = left; bound = right }) else
    if eqb operator 3 || eqb operator 4 then Some (record { measured = right; bound = left }) else
    None

-- Both sides of a comparison, with what is known of each by its number.
pub record SidesOf (P : ℕ → Expr → Type 0) (measured bound : ℕ) (q : definitions.Comparison) : Type 0 where
  pub m : Expr
  pub b : Expr
  pub is : q ≡ definitions.compares m b
  pub stands_measured : P measured m
  pub stands_bound : P bound b

abbrev pub ComparedIs : (ℕ → Expr → Type 0) → Option Compared → definitions.Comparison → Type 0
ComparedIs P (Some sides) q = SidesOf P sides.measured sides.bound q
ComparedIs P None q = q ≡ definitions.no_comparison

-- ---- the arguments of `st_distance`

pub record Arguments (c : Columns) (s : List ℕ) (first count : ℕ) (q : optional.Option Exprs) : Type 0 where
  pub all : Exprs
  pub is : q ≡ optional.some all
  pub row : Row c s first count all

abbrev pub DistanceIs : Columns → List ℕ → Option Called → optional.Option Exprs → Type 0
DistanceIs c s (Some call) q = Arguments c s call.first call.count q
DistanceIs c s None q = q ≡ optional.none

-- ---- distance predicates

-- Whether a request is one of a distance.
unfoldable pub is_distance : Request → Bool
is_distance (ask_relation type a b) = false
is_distance (ask_distance form a b bound) = true
is_distance (ask_knn k spheroid ties a b) = false
is_distance ask_nothing = false

-- A distance of this form whose arguments have these indexes.
pub record Distance (c : Columns) (s : List ℕ) (nodes : List Lent) (p : ParsedDistancePredicate) (q : Request) : Type 0 where
  pub a : Expr
  pub b : Expr
  pub bound : Expr
  pub is : q ≡ ask_distance (form_number p.form) a b bound
  pub arg0 : Indexed c s nodes p.arg0 a
  pub arg1 : Indexed c s nodes p.arg1 b
  pub distance : Indexed c s nodes p.distance bound

abbrev pub ParsedIs : Columns → (s : List ℕ) → List Lent → Option ParsedDistancePredicate → Request → Type 0
ParsedIs c s nodes (Some p) q = Distance c s nodes p q
ParsedIs c s nodes None q = is_distance q ≡ false
