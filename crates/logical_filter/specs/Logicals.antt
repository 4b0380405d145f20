-- What the answers about the spatial names of a logical filter say.
use Rattle.std.specs.Prelude.{ℕ, ◌≡◌, Bool, true, not, ◌&&◌, List, [], ◌∷◌, map, Option, Some, None, bit_or, eqb, if◌then◌else◌}
use denote.Bor.{Bor}
use Rattle.definitions.specs.Words.Basics.{same_name, any}
use Rattle.definitions.specs.Words.Expression.{Expr}
use Rattle.definitions.specs.Words.Leaves.{leaves}
use Rattle.definitions.specs.Filter.Names.{spatial_names, leaf_name, mask}
use Rattle.node_table.specs.declared.NodeRecord.{NodeRecord as Lent}
use Rattle.logical_filter.specs.QuerySides.{first_knn, KnnIs}
use Rattle.logical_filter.specs.declared.predicate_names.CollectedNames.{CollectedNames}

-- The names at some references.
abbrev pub spellings : List (Bor (List ℕ)) → List (List ℕ)
spellings names = map (λ name. name.now) names

-- No name stands twice.
unfoldable pub apart : List (List ℕ) → Bool
apart [] = true
apart (name ∷ names) = not (any (same_name name) names) && apart names

-- The bit of a node by its name.
abbrev pub BitIs : (bit : ℕ) → Expr → Type 0
BitIs bit t = bit ≡ mask spatial_names (leaf_name t ∷ [])

-- One node more, with its bit: the index of that of `st_knn` is remembered where none was known.
abbrev pub known : Option ℕ → (bit i : ℕ) → Option ℕ
known (Some j) bit i = Some j
known None bit i = if eqb bit 2048 then Some i else None

abbrev pub with_node : CollectedNames → (bit i : ℕ) → CollectedNames
with_node before bit i = record { mask = bit_or before.mask bit; knn = known before.knn bit i }

-- The names of an expression, and its first `st_knn` call.
pub record CollectedIs (s : List ℕ) (nodes : List Lent) (r : CollectedNames) (t : Expr) : Type 0 where
  pub names : r.mask ≡ mask spatial_names (map leaf_name (leaves t))
  pub knn : KnnIs s nodes r.knn (first_knn (leaves t))
