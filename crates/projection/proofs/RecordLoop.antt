-- The loop over records: those before k are in the row.
use Prim.Native.Nat.{ℕ, ◌+◌, ◌*◌, ◌≤◌, ◌<◌}
use native.Mathlib.Omega.{arith}
use native.Mathlib.Numerals.{add-one}
use mathlib.Core.Path.{◌≡◌, sym, ap, ap₂, ◌∙◌, subst}
use mathlib.Core.List.{List, [], ◌∷◌, ◌++◌, map, map-append}
use lib.ListN.{length, take, get_or, set, length-set}
use lib.Seq.{take-suc, take_all}
use Rattle.definitions.specs.Words.Expression.{Side, Record}
use Rattle.definitions.specs.Bytes.Encode.{record_bytes}
use Rattle.definitions.specs.Bytes.Decode.{side_numbered}
use Rattle.theorems.proofs.RoundTripPlan.{side-again}
use Rattle.expression.specs.Places.{short_at}
use Rattle.expression.proofs.Placed.{first}
use Rattle.byte_writer.specs.Written.{WroteAt}
use Rattle.byte_writer.proofs.Written.{chain, store}
use Rattle.plan_writer.specs.Tables.{Entry, Entries}
use Rattle.plan_writer.proofs.TableLaws.{entry_of, entry-child}
use Rattle.projection.specs.Spots.{Spot, spot_number, record_spots}
use Rattle.projection.specs.Rows.{RecordsFit, RecordsCollected}
use Rattle.projection.proofs.SpotLaws.{record-spots, spot_of, record-spot}

-- What the bytes of a record say of its child index.
entry-side : {s : List ℕ} {at : ℕ} {r : Record} → Entry s at r → side_numbered (get_or s at 0) ≡ r.side
unfolding record_bytes
entry-side {s} {at} {r} h = ap side_numbered (first h.bytes) ∙ side-again r.side

spot-there : {s : List ℕ} {at : ℕ} {r : Record} → Entry s at r
    → record { side = side_numbered (get_or s at 0); at = at + 1; child = short_at s (at + 1) } ≡ spot_of at r
spot-there {s} {at} {r} h =
    ap₂ (λ (side : Side) (child : ℕ). record { side = side; at = at + 1; child = child }) (entry-side h) (entry-child h)

-- ---- the loop

pub record Filling (s : List ℕ) (rec count i : ℕ) (before row : List ℕ) (k : ℕ) : Type 0 where
  pub below : k ≤ count
  pub same : length row ≡ length before
  pub put : (records : List Record) → Entries s rec count records
      → WroteAt i (map spot_number (take k (record_spots rec records))) before row (i + k)

module _ {s : List ℕ} {rec count i : ℕ} {before : List ℕ} where
  module _ {row : List ℕ} {k : ℕ} (f : RecordsFit rec count i before) (inv : Filling s rec count i before row k) where
    pub filling-goes-on : k < count → (side : Side) → side ≡ side_numbered (get_or s (rec + 5 * k) 0) → (child : ℕ)
        → child ≡ short_at s (rec + 5 * k + 1) → (b : ℕ) → b ≡ spot_number (record { side = side; at = rec + 5 * k + 1; child = child })
        → Filling s rec count i before (set row (i + k) b) (k + 1)
    filling-goes-on below side side-is child child-is b b-is = record {
      below = omega arith;
      same = simp length-set inv.same;
      put = λ records entries.
          let spots : List Spot = record_spots rec records in
          let d : Spot = spot_of 0 (record { side = side; child = 0; tag = 0 }) in
          let entry = entry_of entries k below in
          let value : b ≡ spot_number (get_or spots k d) =
          b-is
          ∙ ap₂ (λ (side : Side) (child : ℕ). spot_number (record { side = side; at = rec + 5 * k + 1; child = child })) side-is child-is
          ∙ ap spot_number (spot-there entry ∙ sym (record-spot rec records k (omega (arith, entries.counted)) d)) in
          let more : map spot_number (take k spots) ++ (b ∷ []) ≡ map spot_number (take (k + 1) spots) =
          ap (λ (n : ℕ). map spot_number (take k spots) ++ (n ∷ [])) value
          ∙ sym (map-append spot_number (take k spots) (get_or spots k d ∷ []))
          ∙ sym (ap (map spot_number) (ap (λ (n : ℕ). take n spots) (add-one k)
          ∙ take-suc spots k d (omega (arith, record-spots rec records, entries.counted)))) in
          subst (λ (n : ℕ). WroteAt i (map spot_number (take (k + 1) spots)) before (set row (i + k) b) n) (omega arith)
          (subst (λ (x : List ℕ). WroteAt i x before (set row (i + k) b) (i + k + 1)) more
          (chain (omega (arith, f.room)) (inv.put records entries) (store row (i + k) b (omega (arith, f.room, inv.same)))));
    }

    pub filling-ends : count ≤ k → RecordsCollected s rec count i before row (i + count)
    filling-ends all records entries =
        let spots : List Spot = record_spots rec records in
        let whole : k ≡ count = omega (arith, inv.below) in
        subst (λ (x : List Spot). WroteAt i (map spot_number x) before row (i + count))
        (take_all count spots (omega (arith, record-spots rec records, entries.counted)))
        (subst (λ (n : ℕ). WroteAt i (map spot_number (take n spots)) before row (i + n)) whole (inv.put records entries))
