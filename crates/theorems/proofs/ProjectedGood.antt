-- A projected extraction is good and as long: a place is below 4,096, so two bytes hold it, and nothing else moves.
use Prim.Native.Nat.{ℕ, ◌+◌, ◌*◌, ◌≤◌}
use mathlib.Core.Path.{◌≡◌, refl, sym, ap, ap₂, ◌∙◌, subst}
use mathlib.Core.Bool.{true}
use mathlib.Core.List.{List, [], ◌∷◌, map}
use mathlib.Core.Option
use mathlib.Core.Option.{Option, none, some}
use lib.ListN.{length, length-append, length-map}
use lib.Dec.{ltb}
use borrow.Author.Tests.{ltb-true, lt-ltb}
use Rattle.definitions.specs.Words.Expression.{Side, left, right, no_side, Expr, Record, Frame, Predicate, relation, distance, knn, Extraction, extracted}
use Rattle.definitions.specs.Bytes.Encode.{expr_bytes, frame_bytes, predicate_fields, remainder_bytes, plan_bytes}
use Rattle.definitions.specs.Bytes.Decode.{index_below}
use Rattle.definitions.specs.Words.References.{columns_of}
use Rattle.definitions.specs.Filter.Exchange.{negate}
use Rattle.definitions.specs.Bytes.Good.{nodes, Short, Readable, RecordsInRange, ReadablePredicate, ReadableRemainder, predicate_nodes, remainder_nodes, plan_nodes, GoodPlan}
use Rattle.definitions.specs.Filter.Project.{place_in, ChildLists, place_of, or_zero, new_place, project_expr, project_predicate, project_record, project_frame, project_extraction}
use Rattle.definitions.specs.Claims.Project.{ProjectionGood}
use Rattle.theorems.proofs.Columns.{all_both, Fits, map-length, map-nodes, map-depth, map-in-range, columns-below}
use Rattle.theorems.proofs.ExchangeGood.{frame-length, extraction-length}
use Rattle.theorems.proofs.Places.{place_is, place_short}
use Rattle.theorems.proofs.Projected.{projection-is}

-- ---- ranges

module _ (lists : ChildLists) (short_left : length lists.of_left ≤ 4096) (short_right : length lists.of_right ≤ 4096) where
  new-short : (side : Side) (index : ℕ) → Short index → Short (new_place lists side index)
  unfolding new_place place_of or_zero
  new-short left index h = place_short lists.of_left index short_left (place_in lists.of_left index) (place_is lists.of_left index)
  new-short right index h =
      place_short lists.of_right index short_right (place_in lists.of_right index) (place_is lists.of_right index)
  new-short no_side index h = h

  expr-readable : (side : Side) (e : Expr) → Readable (index_below 65536) e → Readable (index_below 65536) (project_expr lists side e)
  unfolding project_expr
  expr-readable side e r =
      let f : ℕ → ℕ = new_place lists side in
      let below = columns-below 65536 e r.in_range in
      record {
        in_range = map-in-range 65536 65536 f e
            (all_both (λ i. ltb i 65536 ≡ true) (λ i. ltb i 65536 ≡ true) (Fits 65536 f)
            (λ i b _. let k : Short (f i) = new-short side i (ltb-true i 65536 b) in (lt-ltb (f i) 65536 k, k)) (columns_of e) below below)
            r.in_range;
        shallow = rw map-depth r.shallow;
      }

  predicate-readable : (p : Predicate) → ReadablePredicate p → ReadablePredicate (project_predicate lists p)
  unfolding project_predicate
  predicate-readable (relation type l r) h = (expr-readable left l h.0, expr-readable right r h.1)
  predicate-readable (distance form side l r bound) h =
      (h.0, expr-readable left l h.1, expr-readable right r h.2, expr-readable side bound h.3)
  predicate-readable (knn k spheroid probe ties l r) h =
      (h.0, h.1, h.2, h.3, expr-readable probe l h.4, expr-readable (negate probe) r h.5)

  records-in-range : (rs : List Record) → RecordsInRange rs → RecordsInRange (map (project_record lists) rs)
  unfolding project_record
  records-in-range [] h = tt
  records-in-range (r ∷ rs) h = ((new-short r.side r.child h.0.0, h.0.1), records-in-range rs h.1)

  remainder-readable : (R : Option Frame) → ReadableRemainder R → ReadableRemainder (Option.map (project_frame lists) R)
  unfolding project_frame
  remainder-readable none h = h
  remainder-readable (some F) h = record {
    few = rw length-map h.few;
    records_in_range = records-in-range F.records h.records_in_range;
    expr = rw length-map h.expr;
    arity = h.arity;
  }

-- ---- lengths and nodes

module _ (lists : ChildLists) where
  expr-length : (side : Side) (e : Expr) → length (expr_bytes (project_expr lists side e)) ≡ length (expr_bytes e)
  unfolding project_expr
  expr-length side e = map-length _ e

  expr-nodes : (side : Side) (e : Expr) → nodes (project_expr lists side e) ≡ nodes e
  unfolding project_expr
  expr-nodes side e = map-nodes _ e

  predicate-length : (p : Predicate) → length (predicate_fields (project_predicate lists p)) ≡ length (predicate_fields p)
  unfolding predicate_fields project_predicate
  predicate-length (relation type l r) = simp (length-append, expr-length)
  predicate-length (distance form side l r bound) = simp (length-append, expr-length)
  predicate-length (knn k spheroid probe ties l r) = simp (length-append, expr-length)

  predicate-nodes : (p : Predicate) → predicate_nodes (project_predicate lists p) ≡ predicate_nodes p
  unfolding predicate_nodes project_predicate
  predicate-nodes (relation type l r) = simp expr-nodes
  predicate-nodes (distance form side l r bound) = simp expr-nodes
  predicate-nodes (knn k spheroid probe ties l r) = simp expr-nodes

  frame-as-long : (F : Frame) → length (frame_bytes (project_frame lists F)) ≡ length (frame_bytes F)
  unfolding project_frame
  frame-as-long F =
      frame-length (project_frame lists F)
      ∙ ap (λ (k : ℕ). 3 + 5 * k + length (expr_bytes F.expr)) (length-map F.records (project_record lists))
      ∙ sym (frame-length F)

  remainder-length : (R : Option Frame) → length (remainder_bytes (Option.map (project_frame lists) R)) ≡ length (remainder_bytes R)
  unfolding remainder_bytes
  remainder-length none = refl
  remainder-length (some F) = frame-as-long F

  remainder-nodes : (R : Option Frame) → remainder_nodes (Option.map (project_frame lists) R) ≡ remainder_nodes R
  unfolding remainder_nodes project_frame
  remainder-nodes none = refl
  remainder-nodes (some F) = refl

  pub projected-length : (X : Extraction) → length (plan_bytes (extracted (project_extraction lists X))) ≡ length (plan_bytes (extracted X))
  unfolding plan_bytes project_extraction
  projected-length X =
      extraction-length (project_extraction lists X)
      ∙ ap₂ (λ (a b : ℕ). 3 + a + b) (predicate-length X.predicate) (remainder-length X.remainder)
      ∙ sym (extraction-length X)

  plan-nodes : (X : Extraction) → plan_nodes (extracted (project_extraction lists X)) ≡ plan_nodes (extracted X)
  unfolding plan_nodes project_extraction
  plan-nodes X = ap₂ ◌+◌ (predicate-nodes X.predicate) (remainder-nodes X.remainder)

-- ---- good

pub projected-good : (lists : ChildLists) (X : Extraction) → length lists.of_left ≤ 4096 → length lists.of_right ≤ 4096
    → GoodPlan (extracted X) → GoodPlan (extracted (project_extraction lists X))
unfolding project_extraction
projected-good lists X a b g = record {
  readable = (
    g.readable.0,
    predicate-readable lists a b X.predicate g.readable.1,
    remainder-readable lists a b X.remainder g.readable.2,
  );
  few_nodes = rw (plan-nodes lists X) g.few_nodes;
  few_bytes = rw (projected-length lists X) g.few_bytes;
}

pub projection-good : ProjectionGood
projection-good lists X Y a b g e =
    let same : project_extraction lists X ≡ Y = (projection-is lists X Y e).1 in (
      subst (λ (Z : Extraction). GoodPlan (extracted Z)) same (projected-good lists X a b g),
      ap (λ (Z : Extraction). length (plan_bytes (extracted Z))) (sym same) ∙ projected-length lists X,
    )
