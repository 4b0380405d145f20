-- An extraction: its predicate after the first byte and the position, its remainder after the predicate.
use Prim.Native.Nat.{ℕ, ◌+◌, ◌*◌, ◌≤◌}
use native.Mathlib.Omega.{arith}
use mathlib.Core.Path.{◌≡◌, refl, sym, ap, ◌∙◌, subst}
use mathlib.Core.List.{List, [], ◌++◌, map, map-append, append-nil}
use mathlib.Core.Option.{Option, none, some}
use lib.ListN.{length, length-append}
use Rattle.definitions.specs.Words.Basics.{big_endian}
use Rattle.definitions.specs.Words.Limits.{most_bytes}
use Rattle.definitions.specs.Words.Expression as tree
use Rattle.definitions.specs.Bytes.Encode.{predicate_fields, records_bytes, expr_bytes, remainder_bytes, frame_bytes, extraction_bytes, plan_bytes}
use Rattle.definitions.specs.Bytes.Good.{ReadableRemainder}
use Rattle.theorems.proofs.ExchangeGood.{records-length}
use Rattle.expression.specs.Places.{Holds}
use Rattle.expression.proofs.Placed.{fits, front, back, next}
use Rattle.frame_reader.specs.declared.frame_bodies.Frame.{Frame}
use Rattle.plan_reader.specs.Plans.{RemainderAt}
use Rattle.plan_reader.specs.declared.extraction_bodies.Extraction.{Extraction}
use Rattle.std.specs.Prelude.{Some}
use Rattle.byte_writer.specs.Written.{WroteAt}
use Rattle.byte_writer.proofs.Written.{chain}
use Rattle.plan_writer.specs.Tables.{Entries}
use Rattle.projection.specs.Spots.{Spot, spot_number, record_spots}
use Rattle.projection.specs.Rows.{SpotsPut, RecordsFit, RecordsCollected}
use Rattle.projection.specs.declared.spots.Spotted.{Spotted}
use Rattle.projection.proofs.SpotWalk.{index-after}
use Rattle.projection.proofs.SpotLaws.{record-spots}
use Rattle.projection.specs.PlanSpots.{predicate_spots, remainder_spots, extraction_spots}
use Rattle.projection.specs.Arguments.{PredicateThere, ArgumentsFit, ArgumentsCollected}
use Rattle.projection.specs.Extractions.{ExtractionThere, ExtractionFits}

-- Bytes stand at their own start.
pub whole : {s x : List ℕ} → s ≡ x → Holds s 0 x
whole {s} {x} e = record { rest = []; bytes = e ∙ sym (append-nil x); within = omega arith }

module _ {s : List ℕ} {x : Extraction} {X : tree.Extraction} (t : ExtractionThere s x X) where
  -- The fields of the predicate and then the remainder.
  after-position : Holds s 3 (predicate_fields X.predicate ++ remainder_bytes X.remainder)
  unfolding plan_bytes extraction_bytes big_endian
  after-position = back (big_endian 2 X.position) _ (next (whole t.bytes) 1 refl) 3 refl

  pub predicate-there : PredicateThere s x.predicate X.predicate
  predicate-there = record { read = t.read.predicate; in_row = t.in_row }

  -- The remainder stands there, and everything ends within the limit.
  remainder-there : Holds s (3 + length (predicate_fields X.predicate)) (remainder_bytes X.remainder)
  remainder-there = back (predicate_fields X.predicate) (remainder_bytes X.remainder) after-position _ refl

  predicate_fits : 3 + length (predicate_fields X.predicate) ≤ length s
  predicate_fits = fits (front (predicate_fields X.predicate) (remainder_bytes X.remainder) after-position)

  short : length s ≤ most_bytes
  short = omega (arith, ap length t.bytes, t.good.few_bytes)

  -- The records of a frame that was read.
  module _ (f : Frame) (read : RemainderAt s (Some f) (length s) X.remainder) where
    pub frame-entries : (rec : ℕ) → rec ≡ 3 + length (predicate_fields X.predicate) + 3
        → Entries s rec f.columns read.0.records
    unfolding remainder_bytes frame_bytes big_endian
    frame-entries rec e =
        let F : tree.Frame = read.0 in
        let there : Holds s (3 + length (predicate_fields X.predicate)) (frame_bytes F) = rw read.1 at remainder-there in
        let behind : Holds s rec (records_bytes F.records ++ expr_bytes F.expr) =
        back (big_endian 2 (length F.records)) _ (next there _ refl) rec (omega (arith, e)) in
        let readable : ReadableRemainder (some F) = rw read.1 at t.good.readable.2 in
        record {
          bytes = front (records_bytes F.records) (expr_bytes F.expr) behind;
          in_range = readable.records_in_range;
          counted = sym read.2.counted;
        }

module _ {s : List ℕ} {x : Extraction} {row : List ℕ} (f : ExtractionFits s x row) where
  pub arguments-fit : ArgumentsFit s x.predicate row
  unfolding extraction_spots
  arguments-fit = record {
    P = f.X.predicate;
    there = predicate-there f.there;
    short = omega (arith, predicate_fits f.there, short f.there);
    room = omega (arith, simp length-append at f.room);
  }

  pub records-fit : (g : Frame) → RemainderAt s (Some g) (length s) f.X.remainder → (middle : List ℕ)
      → length middle ≡ length row → (p : Spotted) → ArgumentsCollected s x.predicate row middle p
      → (p.end + 3 + 5 * g.columns ≤ length s) × RecordsFit (p.end + 3) g.columns p.index middle
  unfolding extraction_spots remainder_spots
  records-fit g read middle same p is =
      let a = is f.X.predicate (predicate-there f.there) in
      let F : tree.Frame = read.0 in
      let entries = frame-entries f.there g read (p.end + 3) (omega (arith, a.ends)) in
      let room : length (extraction_spots f.X) ≡ length (predicate_spots f.X.predicate) + length F.records =
      length-append (predicate_spots f.X.predicate) _
      ∙ ap (λ (R : Option tree.Frame). length (predicate_spots f.X.predicate)
      + length (remainder_spots (3 + length (predicate_fields f.X.predicate)) R)) read.1
      ∙ ap (λ (n : ℕ). length (predicate_spots f.X.predicate) + n) (record-spots _ F.records) in
      let within : p.end + 3 + 5 * g.columns ≤ length s =
      omega (arith, fits entries.bytes, records-length F.records, entries.counted) in (
        within,
        record {
          short = omega (arith, within, short f.there);
          room = omega (arith, index-after a, room, f.room, entries.counted);
        },
      )

-- ---- what is collected

module _ {s : List ℕ} {x : Extraction} (before middle : List ℕ) (p : Spotted) (is : ArgumentsCollected s x.predicate before middle p)
    (X : tree.Extraction) (t : ExtractionThere s x X) where
  first : SpotsPut 3 (length (predicate_fields X.predicate)) 0 (predicate_spots X.predicate) before middle p
  first = is X.predicate (predicate-there t)

  pub collected-nothing : X.remainder ≡ none → WroteAt 0 (map spot_number (extraction_spots X)) before middle p.index
  unfolding extraction_spots remainder_spots
  collected-nothing e =
      subst (λ (x : List Spot). WroteAt 0 (map spot_number x) before middle p.index)
      (sym (ap (λ (R : Option tree.Frame). predicate_spots X.predicate
      ++ remainder_spots (3 + length (predicate_fields X.predicate)) R) e ∙ append-nil (predicate_spots X.predicate)))
      first.put

  pub collected-records : (g : Frame) → RemainderAt s (Some g) (length s) X.remainder → (after : List ℕ) (r : ℕ)
      → RecordsCollected s (p.end + 3) g.columns p.index middle after r
      → WroteAt 0 (map spot_number (extraction_spots X)) before after r
  unfolding extraction_spots remainder_spots
  collected-records g read after r rest =
      let F : tree.Frame = read.0 in
      let start : p.end + 3 ≡ 3 + length (predicate_fields X.predicate) + 3 = omega (arith, first.ends) in
      let both = chain (omega arith) first.put (rest F.records (frame-entries t g read (p.end + 3) start)) in
      subst (λ (l : List ℕ). WroteAt 0 l before after r)
      (ap (λ (n : ℕ). map spot_number (predicate_spots X.predicate) ++ map spot_number (record_spots n F.records)) start
      ∙ sym (map-append spot_number (predicate_spots X.predicate) _)
      ∙ ap (λ (R : Option tree.Frame). map spot_number (predicate_spots X.predicate
      ++ remainder_spots (3 + length (predicate_fields X.predicate)) R)) (sym read.1))
      both
