-- What is found of the places of an extraction's child indexes. (Ours.)
use Rattle.std.specs.Prelude.{ℕ, ◌≤◌, ◌≡◌, true, false, List, map, length, take, Option, Some, None}
use Rattle.definitions.specs.Words.Limits.{most_items}
use Rattle.definitions.specs.Words.Expression as tree
use Rattle.definitions.specs.Filter.Project.{ChildLists, new_place, placed}
use Rattle.plan_reader.specs.declared.extraction_bodies.Extraction.{Extraction}
use Rattle.projection.specs.Spots.{Spot, spot_number}
use Rattle.projection.specs.PlanSpots.{extraction_spots}
use Rattle.projection.specs.Extractions.{ExtractionThere}

-- Neither list has over 4,096 items.
pub record ListsFit (of_left of_right : List ℕ) : Type 0 where
  pub first : length of_left ≤ most_items
  pub second : length of_right ≤ most_items

-- A child index replaced by its place.
abbrev pub moved : ChildLists → Spot → Spot
moved lists e = record { side = e.side; at = e.at; child = new_place lists e.side e.child }

-- The lists have all, and the row's first numbers are those of the places; or they lack one.
abbrev pub PlacesAre : (lists : ChildLists) (X : tree.Extraction) (row : List ℕ) → Option ℕ → Type 0
PlacesAre lists X row (Some count) =
    (placed lists X ≡ true) × (count ≤ length row) × (take count row ≡ map spot_number (map (moved lists) (extraction_spots X)))
PlacesAre lists X row None = placed lists X ≡ false

-- So it is of the extraction that stands there.
abbrev pub ProjectedIs : (s : List ℕ) → Extraction → (of_left of_right row : List ℕ) → Option ℕ → Type 0
ProjectedIs s x of_left of_right row r =
    (X : tree.Extraction) → ExtractionThere s x X → PlacesAre (record { of_left = of_left; of_right = of_right }) X row r
