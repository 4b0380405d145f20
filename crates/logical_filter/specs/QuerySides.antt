-- What the answers about a KNN query side say.
use Rattle.std.specs.Prelude.{ℕ, ◌≡◌, List, [], ◌∷◌, Some, None}
use Rattle.std.specs.Prelude as prelude
use Rattle.std.proofs.Math.Option.{Option, none, some}
use Rattle.definitions.specs.Words.Basics.{all}
use Rattle.definitions.specs.Words.Expression.{Side, left, right, no_side, Expr, Exprs}
use Rattle.definitions.specs.Bytes.Decode.{Columns}
use Rattle.definitions.specs.Filter.Names.{in_left, in_right, knn_arguments}
use Rattle.expression.specs.Nodes.{children_of, Stands}
use Rattle.node_table.specs.declared.NodeRecord.{NodeRecord as Lent}
use Rattle.filter_tree.specs.Trees.{Noded}
use Rattle.logical_filter.specs.declared.knn_query_side.Schemas.{Schemas}
use Rattle.logical_filter.specs.declared.knn_query_side.KNNJoinQuerySide.{KNNJoinQuerySide}
use Rattle.logical_filter.specs.declared.knn_query_side.KNNJoinQuerySide.TheVariants as side

-- The first of two that is there.
abbrev pub or_else : Option Exprs → Option Exprs → Option Exprs
or_else none later = later
or_else (some arguments) later = some arguments

-- The arguments of the first `st_knn` call.
unfoldable pub first_knn : List Expr → Option Exprs
first_knn [] = none
first_knn (e ∷ es) = or_else (knn_arguments e) (first_knn es)

-- A call stands where the node of index i does, and these are its arguments.
pub record KnnAt (s : List ℕ) (nodes : List Lent) (i : ℕ) (q : Option Exprs) : Type 0 where
  pub columns : Columns
  pub place : ℕ
  pub call : Expr
  pub is : q ≡ some (children_of call)
  pub stands : Stands columns s place call
  pub noded : Noded nodes place i call

-- The index of a call that was found, or there is none.
abbrev pub KnnIs : (s : List ℕ) (nodes : List Lent) → prelude.Option ℕ → Option Exprs → Type 0
KnnIs s nodes (Some i) q = KnnAt s nodes i q
KnnIs s nodes None q = q ≡ none

-- Some arguments are those of the call, if there is one; what is claimed of them.
abbrev pub Knn : (s : List ℕ) (nodes : List Lent) → prelude.Option ℕ → Type 0
Knn s nodes knn = (q : Option Exprs) × KnnIs s nodes knn q

abbrev pub OfKnn : (s : List ℕ) (nodes : List Lent) → prelude.Option ℕ → (Option Exprs → Type 0) → Type 0
OfKnn s nodes knn P = (q : Option Exprs) → KnnIs s nodes knn q → P q

-- Which schemas have all columns with these bits.
pub record SchemasAre (bits : List ℕ) (r : Schemas) : Type 0 where
  pub all_left : r.left ≡ all in_left bits
  pub all_right : r.right ≡ all in_right bits

-- The definitions' side for each answer: 0 left, 1 right, 2 none.
abbrev pub query_side_is : KNNJoinQuerySide → Side
query_side_is side.Left = left
query_side_is side.Right = right
query_side_is side.None = no_side
