-- Request 7 of document 02: the child indexes of an extraction, in the order of its bytes. (Ours.)
use Rattle.std.specs.Prelude.{ℕ, ◌+◌, List, [], ◌++◌, length}
use Rattle.std.proofs.Math.Option.{Option, none, some}
use Rattle.definitions.specs.Words.Expression.{Side, left, right, Expr, Frame, Predicate, relation, distance, knn, Extraction}
use Rattle.definitions.specs.Bytes.Encode.{expr_bytes, predicate_fields}
use Rattle.definitions.specs.Filter.Exchange.{negate}
use Rattle.projection.specs.Spots.{Spot, column_spots, record_spots}

-- Those of two arguments, the second where the first ends.
unfoldable pub both_spots : (one two : Side) → (at : ℕ) → (l r : Expr) → List Spot
both_spots one two at l r = column_spots one at l ++ column_spots two (at + length (expr_bytes l)) r

-- Those of a predicate's arguments.
unfoldable pub predicate_spots : Predicate → List Spot
predicate_spots (relation type l r) = both_spots left right 4 l r
predicate_spots (distance form side l r bound) =
    both_spots left right 5 l r ++ column_spots side (5 + (length (expr_bytes l) + length (expr_bytes r))) bound
predicate_spots (knn k spheroid probe ties l r) = both_spots probe (negate probe) 10 l r

-- Those of the remainder at a place.
unfoldable pub remainder_spots : (at : ℕ) → Option Frame → List Spot
remainder_spots at none = []
remainder_spots at (some F) = record_spots (at + 3) F.records

-- All of an extraction.
unfoldable pub extraction_spots : Extraction → List Spot
extraction_spots X = predicate_spots X.predicate ++ remainder_spots (3 + length (predicate_fields X.predicate)) X.remainder
