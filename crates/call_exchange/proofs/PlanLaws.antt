-- The exchange of a plan, where it stood: a frame's or a remainder's records, and a predicate before a remainder.
use Prim.Native.Nat.{ℕ, ◌+◌, ◌*◌, ◌≤◌}
use native.Mathlib.Omega.{arith}
use mathlib.Core.Path.{◌≡◌, ◌∙◌}
use mathlib.Core.List.{List, [], ◌∷◌, ◌++◌, append_assoc}
use mathlib.Core.Option as optional
use lib.ListN.{length, length-append, length-map}
use Rattle.std.specs.Prelude.{Option, Some, None}
use Rattle.definitions.specs.Words.Basics.{big_endian}
use Rattle.definitions.specs.Words.Expression as tree
use Rattle.definitions.specs.Words.Expression.{Plan, held, extracted}
use Rattle.definitions.specs.Bytes.Encode.{expr_bytes, predicate_fields, frame_bytes, remainder_bytes, extraction_bytes, plan_bytes}
use Rattle.definitions.specs.Filter.Exchange.{exchange_record, exchange_frame, exchange_predicate, exchange_extraction, exchange_plan}
use Rattle.theorems.proofs.ExchangeGood.{records-length, frame-length, predicate-as-long, extraction-length}
use Rattle.frame_reader.specs.Frames.{FrameAt}
use Rattle.frame_reader.specs.declared.frame_bodies.Frame.{Frame}
use Rattle.plan_reader.specs.Plans.{RemainderAt, ExtractionAt}
use Rattle.plan_reader.specs.declared.extraction_bodies.Extraction.{Extraction}
use Rattle.plan_reader.specs.declared.extraction_bodies.Held.TheVariants as there
use Rattle.byte_writer.specs.Writing.{Room}
use Rattle.sedona_query_planner.specs.Predicates.{unchanged, PredicateAt, Exchanges}
use Rattle.sedona_query_planner.specs.declared.spatial_predicate.SpatialPredicate.{SpatialPredicate}
use Rattle.plan_writer.specs.Predicates.{predicate_bytes}
use Rattle.call_exchange.specs.ExchangedBytes.{frame_exchanged, remainder_exchanged, extraction_exchanged}
use Rattle.call_exchange.specs.Turned.{Turned}
use Rattle.call_exchange.specs.Exchanged.{SidesNegated, WithinBuffer, RemainderNegated, PredicateTurned, HeldPlan, ExchangedPlan}
use Rattle.call_exchange.proofs.TurnedLaws.{middle-turned}

module _ (s : List ℕ) where
  -- ---- what is written lies within the plan

  pub records-within : {f : Frame} {end : ℕ} {F : tree.Frame} → FrameAt s f end F → f.records + 5 * f.columns ≤ length s
  records-within {F = F} h = omega (arith, h.counted, h.records.ends, h.expr.bytes.within, h.expr.bytes.ends, records-length F.records)

  pub frame-within : {f : Frame} {buffer : List ℕ} → HeldPlan s (there.Frame f) buffer → f.records + 5 * f.columns ≤ length buffer
  frame-within h = omega (arith, records-within h.stands.2, h.room)

  rest-within : (rest : Option Frame) (end : ℕ) (R : optional.Option tree.Frame) → RemainderAt s rest end R → (buffer : List ℕ)
      → length s ≤ length buffer → WithinBuffer rest buffer
  rest-within (Some f) end R h buffer room = omega (arith, records-within h.2)
  rest-within None end R h buffer room = tt

  module _ {x : Extraction} {buffer : List ℕ} (h : HeldPlan s (there.Extraction x) buffer) where
    pub remainder-within : (after : List ℕ) → length after ≡ length buffer → WithinBuffer x.remainder after
    remainder-within after e =
        rest-within x.remainder (length s) h.stands.0.remainder h.stands.2.remainder after (omega (arith, h.room))

    pub swapped-room : (swapped : SpatialPredicate)
        → Exchanges (λ s. PredicateAt unchanged s x.predicate) (λ s. PredicateAt unchanged s swapped)
        → Room (PredicateAt unchanged s swapped) predicate_fields 3 buffer
    unfolding plan_bytes
    swapped-room swapped swaps =
        let X : tree.Extraction = h.stands.0 in
        record {
          it = exchange_predicate X.predicate;
          stands = swaps s X.predicate h.stands.2.predicate;
          room = omega (arith, h.room, rw h.stands.1 at h.size, extraction-length X, predicate-as-long X.predicate);
        }

  -- ---- and makes the exchanged plan of it

  frame-turned : {f : Frame} {F : tree.Frame} {end : ℕ} → FrameAt s f end F → {before after : List ℕ}
      → SidesNegated f.records f.columns before after → (head : List ℕ) → end ≡ length head + length (frame_bytes F)
      → Turned (head ++ frame_bytes F) (head ++ frame_exchanged F) before after
  unfolding frame_bytes exchange_frame big_endian
  frame-turned {f} {F} h negated head ends tail is =
      let front : List ℕ = head ++ (1 ∷ big_endian 2 (length F.records)) in
      let at : f.records ≡ length front =
      simp length-append (omega (arith, h.counted, h.records.ends, h.expr.bytes.ends, frame-length F, records-length F.records, ends)) in
      rw (length-map F.records exchange_record)
      (middle-turned (negated F.records h.counted) front (expr_bytes F.expr) at tail (is ∙ simp append_assoc) ∙ simp append_assoc)

  remainder-turned : (rest : Option Frame) (R : optional.Option tree.Frame) {end : ℕ} → RemainderAt s rest end R
      → (before after : List ℕ) → RemainderNegated rest before after → (head : List ℕ) → end ≡ length head + length (remainder_bytes R)
      → Turned (head ++ remainder_bytes R) (head ++ remainder_exchanged R) before after
  unfolding remainder_bytes
  remainder-turned (Some f) R h before after negated head ends = rw h.1 (frame-turned h.2 negated head (rw h.1 at ends))
  remainder-turned None R h before after kept head ends = rw (h, kept) (λ tail is. is)

  extraction-turned : {x : Extraction} {X : tree.Extraction} {end : ℕ} → ExtractionAt s x end X → {before middle after : List ℕ}
      → PredicateTurned X.predicate before middle → RemainderNegated x.remainder middle after → end ≡ length (extraction_bytes X)
      → Turned (extraction_bytes X) (extraction_exchanged X) before after
  unfolding extraction_bytes exchange_extraction predicate_bytes big_endian
  extraction-turned {x} {X} h {before} {middle} {after} turned negated ends tail is =
      let exchanged : List ℕ = predicate_bytes X.position (exchange_predicate X.predicate) in
      let rest : List ℕ = remainder_bytes X.remainder in
      let first = turned X.position (rest ++ tail) (is ∙ simp append_assoc) in
      remainder-turned x.remainder X.remainder h.remainder middle after negated exchanged
      (omega (arith, ends, extraction-length X, predicate-as-long X.predicate))
      tail (first ∙ simp append_assoc) ∙ simp append_assoc

  -- ---- a plan

  pub frame-exchanged : {f : Frame} {before after : List ℕ} → SidesNegated f.records f.columns before after
      → ExchangedPlan s (there.Frame f) before after
  unfolding plan_bytes exchange_plan
  frame-exchanged negated p h size = rw h.1 (frame-turned h.2 negated [] (omega (arith, rw h.1 at size)))

  pub extraction-exchanged : (x : Extraction) (swapped : SpatialPredicate) (before middle after : List ℕ)
      → Exchanges (λ s. PredicateAt unchanged s x.predicate) (λ s. PredicateAt unchanged s swapped)
      → ((P : tree.Predicate) → PredicateAt unchanged s swapped (exchange_predicate P) → PredicateTurned P before middle)
      → RemainderNegated x.remainder middle after → ExchangedPlan s (there.Extraction x) before after
  unfolding plan_bytes exchange_plan
  extraction-exchanged x swapped before middle after swaps turned negated p h size =
      let X : tree.Extraction = h.0 in
      rw h.1 (extraction-turned h.2 (turned X.predicate (swaps s X.predicate h.2.predicate)) negated (rw h.1 at size))
