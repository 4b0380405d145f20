-- What is collected of an extraction. (Ours.)
use Rattle.std.specs.Prelude.{ℕ, ◌+◌, ◌≤◌, ◌≡◌, List, map, length}
use Rattle.definitions.specs.Words.Expression as tree
use Rattle.definitions.specs.Bytes.Encode.{predicate_fields, plan_bytes}
use Rattle.definitions.specs.Bytes.Good.{GoodPlan}
use Rattle.plan_reader.specs.Predicates.{InRow}
use Rattle.plan_reader.specs.Plans.{ExtractionAt}
use Rattle.plan_reader.specs.declared.extraction_bodies.Extraction.{Extraction}
use Rattle.byte_writer.specs.Written.{WroteAt}
use Rattle.projection.specs.Spots.{spot_number}
use Rattle.projection.specs.PlanSpots.{extraction_spots}

-- The bytes are those of the extraction X, which is good and is the one that was read.
pub record ExtractionThere (s : List ℕ) (x : Extraction) (X : tree.Extraction) : Type 0 where
  pub bytes : s ≡ plan_bytes (tree.extracted X)
  pub good : GoodPlan (tree.extracted X)
  pub read : ExtractionAt s x (length s) X
  pub in_row : InRow x.predicate (3 + length (predicate_fields X.predicate))

-- There is such a one, and the row has room for its child indexes; what is collected of it.
pub record ExtractionFits (s : List ℕ) (x : Extraction) (row : List ℕ) : Type 0 where
  pub X : tree.Extraction
  pub there : ExtractionThere s x X
  pub room : length (extraction_spots X) ≤ length row

abbrev pub ExtractionCollected : (s : List ℕ) → Extraction → (before after : List ℕ) (r : ℕ) → Type 0
ExtractionCollected s x before after r =
    (X : tree.Extraction) → ExtractionThere s x X → WroteAt 0 (map spot_number (extraction_spots X)) before after r
