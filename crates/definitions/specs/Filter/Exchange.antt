-- The exchange of a join's children.
use Rattle.std.specs.Prelude.{map, Bool, if◌then◌else◌}
use Rattle.std.proofs.Math.Option
use Rattle.definitions.specs.Words.Expression.{Side, left, right, no_side, Record, Frame, Predicate, relation, distance, knn, Extraction, Plan, empty, held, extracted, invert}

-- The other side; that of none is none.
unfoldable pub negate : Side → Side
negate left = right
negate right = left
negate no_side = no_side

-- A record with its side negated.
unfoldable pub exchange_record : Record → Record
exchange_record r = record { side = negate r.side; child = r.child; tag = r.tag }

-- A frame with the side of each record negated.
unfoldable pub exchange_frame : Frame → Frame
exchange_frame F = record { records = map exchange_record F.records; expr = F.expr }

-- A relation swaps left and right and inverts, a distance swaps them and negates its side, KNN negates the probe side only.
unfoldable pub exchange_predicate : Predicate → Predicate
exchange_predicate (relation type l r) = relation (invert type) r l
exchange_predicate (distance form side l r bound) = distance form (negate side) r l bound
exchange_predicate (knn k spheroid probe ties l r) = knn k spheroid (negate probe) ties l r

-- An extraction exchanges its predicate and its remainder, and keeps its position (request 4).
unfoldable pub exchange_extraction : Extraction → Extraction
exchange_extraction X = record {
  position = X.position;
  predicate = exchange_predicate X.predicate;
  remainder = Option.map exchange_frame X.remainder;
}

-- The exchange of what a plan holds.
unfoldable pub exchange_plan : Plan → Plan
exchange_plan empty = empty
exchange_plan (held F) = held (exchange_frame F)
exchange_plan (extracted X) = extracted (exchange_extraction X)

-- The extraction, exchanged once where the odd bit is 1. (Ours.)
abbrev pub extracted_plan : Extraction → (odd : Bool) → Plan
extracted_plan X odd = if odd then extracted (exchange_extraction X) else extracted X
