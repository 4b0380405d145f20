-- Each child index of an extraction has five bytes of its own, and is that of a node or of a record.
use Prim.Native.Nat.{ℕ, ◌+◌, ◌*◌, ◌≤◌}
use native.Mathlib.Omega.{arith}
use mathlib.Core.Option.{Option, none, some}
use lib.ListN.{length, length-append}
use Rattle.definitions.specs.Words.Expression as tree
use Rattle.definitions.specs.Words.Expression.{Side, left, right, Expr, Predicate, relation, distance, knn, Extraction, extracted}
use Rattle.definitions.specs.Bytes.Encode.{expr_bytes, predicate_fields, frame_bytes, remainder_bytes, extraction_bytes, plan_bytes}
use Rattle.definitions.specs.Words.Limits.{most_nodes, most_records}
use Rattle.definitions.specs.Bytes.Good.{nodes, predicate_nodes, plan_nodes, ReadableRemainder, GoodPlan}
use Rattle.definitions.specs.Filter.Exchange.{negate}
use Rattle.theorems.proofs.ExchangeGood.{records-length}
use Rattle.projection.proofs.SpotLaws.{few-columns, nodes-enough, record-spots}
use Rattle.projection.specs.PlanSpots.{both_spots, predicate_spots, remainder_spots, extraction_spots}

few-both : (one two : Side) (at : ℕ) (l r : Expr) → 5 * length (both_spots one two at l r) ≤ length (expr_bytes l) + length (expr_bytes r)
unfolding both_spots
few-both one two at l r =
    simp length-append (omega (arith, few-columns one at l, few-columns two (at + length (expr_bytes l)) r))

few-predicate : (P : Predicate) → 5 * length (predicate_spots P) ≤ length (predicate_fields P)
unfolding predicate_spots predicate_fields
few-predicate (relation type l r) = simp length-append (omega (arith, few-both left right 4 l r))
few-predicate (distance form side l r bound) =
    let at : ℕ = 5 + (length (expr_bytes l) + length (expr_bytes r)) in
    simp length-append (omega (arith, few-both left right 5 l r, few-columns side at bound))
few-predicate (knn k spheroid probe ties l r) = simp length-append (omega (arith, few-both probe (negate probe) 10 l r))

few-remainder : (at : ℕ) (R : Option tree.Frame) → 5 * length (remainder_spots at R) ≤ length (remainder_bytes R)
unfolding remainder_spots remainder_bytes frame_bytes
few-remainder at none = omega arith
few-remainder at (some F) =
    simp length-append (omega (arith, record-spots (at + 3) F.records, records-length F.records))

pub few-spots : (X : Extraction) → 5 * length (extraction_spots X) ≤ length (plan_bytes (extracted X))
unfolding extraction_spots plan_bytes extraction_bytes
few-spots X =
    let at : ℕ = 3 + length (predicate_fields X.predicate) in
    simp length-append (omega (arith, few-predicate X.predicate, few-remainder at X.remainder))

-- ---- by nodes and records

nodes-both : (one two : Side) (at : ℕ) (l r : Expr) → length (both_spots one two at l r) ≤ nodes l + nodes r
unfolding both_spots
nodes-both one two at l r = simp length-append (omega (arith, nodes-enough one at l, nodes-enough two (at + length (expr_bytes l)) r))

nodes-predicate : (P : Predicate) → length (predicate_spots P) ≤ predicate_nodes P
unfolding predicate_spots predicate_nodes
nodes-predicate (relation type l r) = nodes-both left right 4 l r
nodes-predicate (distance form side l r bound) =
    let at : ℕ = 5 + (length (expr_bytes l) + length (expr_bytes r)) in
    simp length-append (omega (arith, nodes-both left right 5 l r, nodes-enough side at bound))
nodes-predicate (knn k spheroid probe ties l r) = nodes-both probe (negate probe) 10 l r

few-records : (at : ℕ) (R : Option tree.Frame) → ReadableRemainder R → length (remainder_spots at R) ≤ most_records
unfolding remainder_spots
few-records at none h = omega arith
few-records at (some F) h = omega (arith, record-spots (at + 3) F.records, h.few)

pub fewer-spots : (X : Extraction) → GoodPlan (extracted X) → length (extraction_spots X) ≤ most_nodes + most_records
unfolding extraction_spots plan_nodes
fewer-spots X good =
    let at : ℕ = 3 + length (predicate_fields X.predicate) in
    simp length-append (omega (arith, nodes-predicate X.predicate, few-records at X.remainder good.readable.2, good.few_nodes))
