-- Request 7 of document 02: each child narrowed to a list of its columns, and an extraction that follows.
use Rattle.std.specs.Prelude.{ℕ, suc, Bool, true, false, ◌&&◌, List, [], ◌∷◌, map, eqb, if◌then◌else◌}
use Rattle.std.proofs.Math.Option
use Rattle.std.proofs.Math.Option.{Option, none, some}
use Rattle.definitions.specs.Words.Basics.{all}
use Rattle.definitions.specs.Words.Expression.{Side, left, right, no_side, Expr, Record, Frame, Predicate, relation, distance, knn, Extraction}
use Rattle.definitions.specs.Words.References.{columns_of, map_columns}
use Rattle.definitions.specs.Filter.Exchange.{negate}

-- ---- places

-- The position, from 0, of the first equal item; none where the list lacks it.
unfoldable pub place_in : (items : List ℕ) → (index : ℕ) → Option ℕ
place_in [] index = none
place_in (item ∷ items) index = if eqb item index then some 0 else Option.map suc (place_in items index)

-- The list of child indices of each side.
pub record ChildLists : Type 0 where
  pub of_left : List ℕ
  pub of_right : List ℕ

-- A child index's place in the list of its side; one of side none is copied.
unfoldable pub place_of : ChildLists → Side → (index : ℕ) → Option ℕ
place_of lists left index = place_in lists.of_left index
place_of lists right index = place_in lists.of_right index
place_of lists no_side index = some index

-- Whether there is a place.
unfoldable pub is_place : Option ℕ → Bool
is_place none = false
is_place (some place) = true

-- The place; 0 stands for one that is missing.
unfoldable pub or_zero : Option ℕ → ℕ
or_zero none = 0
or_zero (some place) = place

-- What a child index becomes.
unfoldable pub new_place : ChildLists → Side → (index : ℕ) → ℕ
new_place lists side index = or_zero (place_of lists side index)

-- Whether its list has it.
unfoldable pub has_place : ChildLists → Side → (index : ℕ) → Bool
has_place lists side index = is_place (place_of lists side index)

-- ---- the projected extraction

-- An argument of one side.
unfoldable pub project_expr : ChildLists → Side → Expr → Expr
project_expr lists side e = map_columns (new_place lists side) e

-- Whether the list has each of its columns.
unfoldable pub placed_expr : ChildLists → Side → Expr → Bool
placed_expr lists side e = all (has_place lists side) (columns_of e)

-- Geometries go by their side, a distance by its own, KNN's first geometry by the probe side and its second by the other.
unfoldable pub project_predicate : ChildLists → Predicate → Predicate
project_predicate lists (relation type l r) = relation type (project_expr lists left l) (project_expr lists right r)
project_predicate lists (distance form side l r bound) =
    distance form side (project_expr lists left l) (project_expr lists right r) (project_expr lists side bound)
project_predicate lists (knn k spheroid probe ties l r) =
    knn k spheroid probe ties (project_expr lists probe l) (project_expr lists (negate probe) r)

-- Whether the lists have each column of a predicate.
unfoldable pub placed_predicate : ChildLists → Predicate → Bool
placed_predicate lists (relation type l r) = placed_expr lists left l && placed_expr lists right r
placed_predicate lists (distance form side l r bound) =
    placed_expr lists left l && (placed_expr lists right r && placed_expr lists side bound)
placed_predicate lists (knn k spheroid probe ties l r) = placed_expr lists probe l && placed_expr lists (negate probe) r

-- A record goes by its side.
unfoldable pub project_record : ChildLists → Record → Record
project_record lists r = record { side = r.side; child = new_place lists r.side r.child; tag = r.tag }

-- Whether its list has a record's child index.
unfoldable pub placed_record : ChildLists → Record → Bool
placed_record lists r = has_place lists r.side r.child

-- A frame with each of its records projected, referenced or not.
unfoldable pub project_frame : ChildLists → Frame → Frame
project_frame lists F = record { records = map (project_record lists) F.records; expr = F.expr }

-- Whether the lists have the child indices of all records of a remainder.
unfoldable pub placed_remainder : ChildLists → Option Frame → Bool
placed_remainder lists none = true
placed_remainder lists (some F) = all (placed_record lists) F.records

-- An extraction projects its predicate and its remainder, and keeps its position.
unfoldable pub project_extraction : ChildLists → Extraction → Extraction
project_extraction lists X = record {
  position = X.position;
  predicate = project_predicate lists X.predicate;
  remainder = Option.map (project_frame lists) X.remainder;
}

-- Whether the lists have every child index of an extraction.
unfoldable pub placed : ChildLists → Extraction → Bool
placed lists X = placed_predicate lists X.predicate && placed_remainder lists X.remainder

-- The projection of an extraction; none where a list lacks an index.
unfoldable pub projection : ChildLists → Extraction → Option Extraction
projection lists X = if placed lists X then some (project_extraction lists X) else none
