-- What is held where a projection begins. (Ours.)
use Rattle.std.specs.Prelude.{ℕ, ◌+◌, ◌*◌, ◌/◌, ◌≤◌, ◌<◌, ◌≡◌, List, length, take, min}
use Rattle.definitions.specs.Words.Limits.{most_nodes, most_records}
use Rattle.definitions.specs.Words.Basics.{ok}
use Rattle.definitions.specs.Words.Expression as tree
use Rattle.definitions.specs.Bytes.Plans.{plan_of}
use Rattle.plan_reader.specs.declared.extraction_bodies.Extraction.{Extraction}
use Rattle.projection.specs.Extractions.{ExtractionThere}
use Rattle.projection.specs.Projected.{ListsFit}

-- The plan's first n bytes are a good extraction, which stands there.
pub record HoldsExtraction (n : ℕ) (plan : List ℕ) (x : Extraction) : Type 0 where
  pub X : tree.Extraction
  pub fits : n ≤ length plan
  pub there : ExtractionThere (take n plan) x X
  pub is : plan_of (take n plan) ≡ ok (tree.extracted X)

-- Lists and scratch will do, and a row of so many places has one for each five bytes, or for each node and record that there may be. No row
-- of numbers has more bytes than the last clause says.
pub record Ready (n : ℕ) (plan scratch : List ℕ) (x : Extraction) (of_left of_right : List ℕ) (places : ℕ) : Type 0 where
  pub holds : HoldsExtraction n plan x
  pub lists : ListsFit of_left of_right
  pub scratched : n ≤ length scratch
  pub room : min (most_nodes + most_records) (n / 5) ≤ places
  pub few : 4 * places < 9223372036854775808
