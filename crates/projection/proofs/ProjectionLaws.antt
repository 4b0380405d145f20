-- What is found of an extraction's child indexes, one side after the other, and what putting them into the plan makes of it.
mod PlacedPlans
use Prim.Native.Nat.{ℕ, ◌+◌, ◌/◌, ◌%◌, ◌≤◌, ◌<◌}
use native.Mathlib.Omega.{arith}
use native.Mathlib.Numerals.{add-one}
use mathlib.Core.Path.{◌≡◌, refl, sym, ap, ap₂, ◌∙◌}
use mathlib.Core.Bool.{true, false, ◌&&◌}
use mathlib.Core.List.{List, [], ◌∷◌, ◌++◌, map}
use lib.ListN.{length, take, get_or, length-append}
use lib.Seq.{take_at, take-suc}
use Rattle.definitions.specs.Words.Basics.{big_endian, all}
use Rattle.definitions.specs.Words.Expression as tree
use Rattle.definitions.specs.Words.Expression.{left, right}
use Rattle.definitions.specs.Bytes.Encode.{side_number, plan_bytes}
use Rattle.definitions.specs.Filter.Project.{ChildLists, placed}
use Rattle.plan_reader.specs.declared.extraction_bodies.Extraction.{Extraction}
use Rattle.byte_writer.specs.Written.{WroteAt}
use Rattle.projection.specs.Spots.{Spot, spot_number}
use Rattle.projection.specs.Placing.{PlacedIs}
use Rattle.projection.specs.PlanSpots.{extraction_spots}
use Rattle.projection.specs.Extractions.{ExtractionThere}
use Rattle.projection.specs.Patches.{put_at, patched}
use Rattle.projection.specs.Projected.{ListsFit, moved}
use Rattle.projection.proofs.SoundSpots.{AllSound, extraction-sound}
use Rattle.projection.proofs.PlacedSpots.{moved_by, has_by, still-sound, all_moved, all_have, found_all, found-not}
use Rattle.projection.proofs.ProjectionLaws.PlacedPlans.{extraction-have}
use Rattle.projection.proofs.PatchLaws.{patched-append}

-- ---- places

-- What was written to the row's start.
module _ {x before row : List ℕ} {count : ℕ} (wrote : WroteAt 0 x before row count) where
  pub row-begins : take count row ≡ x
  row-begins = ap (take count) wrote.out ∙ take_at x _ count (omega (arith, wrote.ends))

  pub row_room : count ≤ length row
  row_room = omega (arith, wrote.ends, simp length-append at (ap length wrote.out))

-- What is lent of a row up to a place, once it came back.
pub cut-there : (part rest : List ℕ) (count : ℕ) → length part ≡ count
    → (count ≤ length (part ++ rest)) × (take count (part ++ rest) ≡ part)
cut-there part rest count e = (simp length-append (omega arith), take_at part rest count e)

module _ (lists : ChildLists) {s : List ℕ} {x : Extraction} (X : tree.Extraction) (t : ExtractionThere s x X) (row : List ℕ)
    (are : row ≡ map spot_number (extraction_spots X)) where
  abbrev es : List Spot
  es = extraction_spots X

  sound : AllSound (length (plan_bytes (tree.extracted X))) es
  sound = extraction-sound X t.good

  by-sides : placed lists X
      ≡ (all (has_by left lists.of_left) es && all (has_by right lists.of_right) (map (moved_by left lists.of_left) es))
  by-sides = sym (extraction-have lists X) ∙ all_have lists es

  pub left-lacks : (after : List ℕ) → PlacedIs (side_number left) lists.of_left row after false → placed lists X ≡ false
  left-lacks after h = by-sides ∙ rw (found-not left lists.of_left row after sound are h) refl

  -- The left ones were found.
  module _ (fit : ListsFit lists.of_left lists.of_right) (middle : List ℕ)
      (first : PlacedIs (side_number left) lists.of_left row middle true) where
    found : (all (has_by left lists.of_left) es ≡ true) × (middle ≡ map spot_number (map (moved_by left lists.of_left) es))
    found = found_all left lists.of_left row middle sound are first

    left-sound : AllSound (length (plan_bytes (tree.extracted X))) (map (moved_by left lists.of_left) es)
    left-sound = still-sound left lists.of_left fit.first sound

    -- So the right ones decide.
    pub right-lacks : (after : List ℕ) → PlacedIs (side_number right) lists.of_right middle after false → placed lists X ≡ false
    right-lacks after h = by-sides ∙ ap₂ ◌&&◌ found.0 (found-not right lists.of_right middle after left-sound found.1 h)

    pub both-found : (after : List ℕ) → PlacedIs (side_number right) lists.of_right middle after true
        → (placed lists X ≡ true) × (after ≡ map spot_number (map (moved lists) es))
    both-found after h =
        let second = found_all right lists.of_right middle after left-sound found.1 h in
        (by-sides ∙ ap₂ ◌&&◌ found.0 second.0, second.1 ∙ ap (map spot_number) (all_moved lists es))

-- ---- into the plan

pub record Putting (row before plan : List ℕ) (k : ℕ) : Type 0 where
  pub below : k ≤ length row
  pub same : length plan ≡ length before
  pub is : plan ≡ patched (take k row) before

module _ {row before : List ℕ} where
  pub putting-begins : Putting row before before 0
  unfolding patched
  putting-begins = record { below = omega arith; same = refl; is = refl }

  module _ {plan : List ℕ} {k : ℕ} (inv : Putting row before plan k) where
    pub putting-goes-on : k < length row → (after : List ℕ) → length after ≡ length plan → (r : ℕ)
        → WroteAt (get_or row k 0 / 262144) (big_endian 2 (get_or row k 0 % 65536)) plan after r → Putting row before after (k + 1)
    unfolding patched
    putting-goes-on more after kept r wrote = record {
      below = omega arith;
      same = kept ∙ inv.same;
      is =
          wrote.out
          ∙ ap (put_at (get_or row k 0 / 262144) (big_endian 2 (get_or row k 0 % 65536))) inv.is
          ∙ sym (patched-append (take k row) (get_or row k 0 ∷ []) before)
          ∙ ap (λ (l : List ℕ). patched l before)
          (sym (ap (λ (n : ℕ). take n row) (add-one k) ∙ take-suc row k 0 more));
    }
