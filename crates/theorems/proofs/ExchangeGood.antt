-- The exchange of a good plan is good and as long.
use Prim.Native.Nat.{ℕ, ◌+◌, ◌*◌}
use native.Mathlib.Omega.{arith}
use mathlib.Core.Path.{◌≡◌, refl, sym, ap, ap₂, ◌∙◌}
use mathlib.Core.List.{List, [], ◌∷◌, map}
use mathlib.Core.Option
use mathlib.Core.Option.{Option, none, some}
use lib.ListN.{length, length-append, length-map}
use Rattle.definitions.specs.Words.Basics.{big_endian}
use Rattle.definitions.specs.Words.Expression.{Side, left, right, no_side, Record, Frame, Predicate, relation, distance, knn, Extraction, Plan, empty, held, extracted}
use Rattle.definitions.specs.Bytes.Encode.{expr_bytes, record_bytes, records_bytes, frame_bytes, predicate_fields, remainder_bytes, extraction_bytes, plan_bytes}
use Rattle.definitions.specs.Filter.Exchange.{negate, exchange_record, exchange_frame, exchange_predicate, exchange_extraction, exchange_plan}
use Rattle.definitions.specs.Bytes.Good.{Short, RecordsInRange, ReadableFrame, OneOfTwo, ReadablePredicate, ReadableRemainder, predicate_nodes, remainder_nodes, plan_nodes, ReadablePlan, GoodPlan}
use Rattle.definitions.specs.Claims.Plans.{moved_to}

-- ---- lengths

pub record-length : (r : Record) → length (record_bytes r) ≡ 5
unfolding record_bytes big_endian
record-length r = refl

pub records-length : (rs : List Record) → length (records_bytes rs) ≡ 5 * length rs
unfolding records_bytes
records-length [] = refl
records-length (r ∷ rs) = length-append (record_bytes r) (records_bytes rs) ∙ omega (arith, record-length r, records-length rs)

pub frame-length : (F : Frame) → length (frame_bytes F) ≡ 3 + 5 * length F.records + length (expr_bytes F.expr)
unfolding frame_bytes big_endian
frame-length F = simp (length-append, records-length) (omega arith)

pub frame-as-long : (F : Frame) → length (frame_bytes (exchange_frame F)) ≡ length (frame_bytes F)
unfolding exchange_frame
frame-as-long F =
    frame-length (exchange_frame F)
    ∙ ap (λ (k : ℕ). 3 + 5 * k + length (expr_bytes F.expr)) (length-map F.records exchange_record)
    ∙ sym (frame-length F)

pub predicate-as-long : (p : Predicate) → length (predicate_fields (exchange_predicate p)) ≡ length (predicate_fields p)
unfolding predicate_fields exchange_predicate
predicate-as-long (relation type l r) = simp length-append (omega arith)
predicate-as-long (distance form side l r bound) = simp length-append (omega arith)
predicate-as-long (knn k spheroid probe ties l r) = simp length-append (omega arith)

remainder-as-long : (R : Option Frame) → length (remainder_bytes (Option.map exchange_frame R)) ≡ length (remainder_bytes R)
unfolding remainder_bytes
remainder-as-long none = refl
remainder-as-long (some F) = frame-as-long F

pub extraction-length : (X : Extraction)
    → length (extraction_bytes X) ≡ 3 + length (predicate_fields X.predicate) + length (remainder_bytes X.remainder)
unfolding extraction_bytes big_endian
extraction-length X = simp length-append (omega arith)

pub plan-as-long : (p : Plan) → length (plan_bytes (exchange_plan p)) ≡ length (plan_bytes p)
unfolding plan_bytes exchange_plan exchange_extraction
plan-as-long empty = refl
plan-as-long (held F) = frame-as-long F
plan-as-long (extracted X) =
    extraction-length (exchange_extraction X)
    ∙ ap₂ (λ (a b : ℕ). 3 + a + b) (predicate-as-long X.predicate) (remainder-as-long X.remainder)
    ∙ sym (extraction-length X)

-- ---- nodes

predicate-nodes : (p : Predicate) → predicate_nodes (exchange_predicate p) ≡ predicate_nodes p
unfolding predicate_nodes exchange_predicate
predicate-nodes (relation type l r) = omega arith
predicate-nodes (distance form side l r bound) = omega arith
predicate-nodes (knn k spheroid probe ties l r) = refl

remainder-nodes : (R : Option Frame) → remainder_nodes (Option.map exchange_frame R) ≡ remainder_nodes R
unfolding remainder_nodes exchange_frame
remainder-nodes none = refl
remainder-nodes (some F) = refl

plan-nodes : (p : Plan) → plan_nodes (exchange_plan p) ≡ plan_nodes p
unfolding plan_nodes exchange_plan exchange_extraction exchange_frame
plan-nodes empty = refl
plan-nodes (held F) = refl
plan-nodes (extracted X) = ap₂ ◌+◌ (predicate-nodes X.predicate) (remainder-nodes X.remainder)

-- ---- ranges

records-in-range : (rs : List Record) → RecordsInRange rs → RecordsInRange (map exchange_record rs)
unfolding exchange_record
records-in-range [] h = tt
records-in-range (r ∷ rs) h = (h.0, records-in-range rs h.1)

frame-readable : (F : Frame) → ReadableFrame F → ReadableFrame (exchange_frame F)
unfolding exchange_frame
frame-readable F h = record {
  few = rw length-map h.few;
  records_in_range = records-in-range F.records h.records_in_range;
  expr = rw length-map h.expr;
  arity = h.arity;
}

one_of_two : (s : Side) → OneOfTwo s → OneOfTwo (negate s)
unfolding negate
one_of_two left h = tt
one_of_two right h = tt
one_of_two no_side h = h

predicate-readable : (p : Predicate) → ReadablePredicate p → ReadablePredicate (exchange_predicate p)
unfolding exchange_predicate
predicate-readable (relation type l r) h = (h.1, h.0)
predicate-readable (distance form side l r bound) h = (h.0, h.2, h.1, h.3)
predicate-readable (knn k spheroid probe ties l r) h = (h.0, h.1, one_of_two probe h.2, h.3, h.4, h.5)

remainder-readable : (R : Option Frame) → ReadableRemainder R → ReadableRemainder (Option.map exchange_frame R)
remainder-readable none h = h
remainder-readable (some F) h = frame-readable F h

plan-readable : (p : Plan) → ReadablePlan p → ReadablePlan (exchange_plan p)
unfolding exchange_plan exchange_extraction
plan-readable empty h = h
plan-readable (held F) h = frame-readable F h
plan-readable (extracted X) h = (h.0, predicate-readable X.predicate h.1, remainder-readable X.remainder h.2)

pub exchange-good : (p : Plan) → GoodPlan p → GoodPlan (exchange_plan p)
exchange-good p g = record {
  readable = plan-readable p g.readable;
  few_nodes = rw (plan-nodes p) g.few_nodes;
  few_bytes = rw (plan-as-long p) g.few_bytes;
}

-- A good extraction is good with any position that two bytes hold.
pub moved-good : (X : Extraction) (position : ℕ) → Short position → GoodPlan (extracted X) → GoodPlan (extracted (moved_to position X))
unfolding plan_bytes plan_nodes
moved-good X i h g = record {
  readable = (h, g.readable.1, g.readable.2);
  few_nodes = g.few_nodes;
  few_bytes = omega (arith, g.few_bytes, extraction-length X, extraction-length (moved_to i X));
}
