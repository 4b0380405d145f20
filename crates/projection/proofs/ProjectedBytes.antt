-- A row that has the places of an extraction's child indexes: they lie within the plan, and once put there they make it the projection.
mod Moving
use Prim.Native.Nat.{ℕ, zero, suc, ◌+◌, ◌/◌, ◌≤◌, ◌<◌}
use native.Mathlib.Omega.{arith}
use native.Mathlib.Nat.{not-suc-le-zero}
use mathlib.Core.Path.{◌≡◌, refl, sym, ap, ◌∙◌, subst}
use mathlib.Core.List.{List, [], ◌++◌, map}
use lib.ListN.{length, take, drop, get_or, length-map, take-append-drop}
use lib.Seq.{length-take-le}
use Rattle.definitions.specs.Words.Expression as tree
use Rattle.definitions.specs.Bytes.Encode.{plan_bytes}
use Rattle.definitions.specs.Filter.Project.{ChildLists, project_extraction}
use Rattle.plan_reader.specs.declared.extraction_bodies.Extraction.{Extraction}
use Rattle.projection.specs.Spots.{Spot, spot_number}
use Rattle.projection.specs.PlanSpots.{extraction_spots}
use Rattle.projection.specs.Extractions.{ExtractionThere}
use Rattle.projection.specs.Patches.{patched, PlacesWithin}
use Rattle.projection.specs.Projected.{ListsFit, moved, PlacesAre}
use Rattle.std.specs.Prelude.{Some}
use Rattle.projection.proofs.SoundSpots.{AllSound, nothing, also, extraction-sound, number-place}
use Rattle.projection.proofs.PlacedSpots.{moved-sound}
use Rattle.projection.proofs.PatchLaws.{patched_by, numbers-patch}
use Rattle.projection.proofs.ProjectedBytes.Moving.{extraction-moves}

-- The place that the k-th number says.
sound-inside : {end : ℕ} {es : List Spot} → AllSound end es → (k : ℕ) → k < length es → get_or (map spot_number es) k 0 / 262144 + 2 ≤ end
sound-inside nothing k b = absurd (not-suc-le-zero b)
sound-inside (also e inside short rest) zero b = omega (arith, number-place e short)
sound-inside (also e inside short rest) (suc k) b = sound-inside rest k (omega arith)

-- The lists of both sides; the child indexes of an extraction as places; the bytes of its projection.
abbrev pub lists_of : (of_left of_right : List ℕ) → ChildLists
lists_of of_left of_right = record { of_left = of_left; of_right = of_right }

abbrev moved_spots : ChildLists → tree.Extraction → List Spot
moved_spots lists X = map (moved lists) (extraction_spots X)

abbrev pub new_bytes : ChildLists → tree.Extraction → List ℕ
new_bytes lists X = plan_bytes (tree.extracted (project_extraction lists X))

module _ (n : ℕ) (plan : List ℕ) {x : Extraction} {X : tree.Extraction} (fits : n ≤ length plan)
    (t : ExtractionThere (take n plan) x X) where
  -- It is as long as its bytes.
  pub size : length (plan_bytes (tree.extracted X)) ≡ n
  size = ap length (sym t.bytes) ∙ length-take-le n plan fits

  module _ {of_left of_right : List ℕ} (fit : ListsFit of_left of_right) (row : List ℕ) {count : ℕ}
      (are : PlacesAre (lists_of of_left of_right) X row (Some count)) where
    sound : AllSound n (moved_spots (lists_of of_left of_right) X)
    sound =
        subst (λ (end : ℕ). AllSound end (moved_spots (lists_of of_left of_right) X)) size (moved-sound fit (extraction-sound X t.good))

    counted : length (moved_spots (lists_of of_left of_right) X) ≡ count
    counted =
        sym (length-map (moved_spots (lists_of of_left of_right) X) spot_number) ∙ ap length (sym are.2) ∙ length-take-le count row are.1

    pub within : PlacesWithin (take count row) plan
    within k b =
        omega (
          arith,
          ap (λ (l : List ℕ). get_or l k 0 / 262144) are.2,
          sound-inside sound k (omega (arith, counted, length-take-le count row are.1)),
        )

    pub new-size : length (new_bytes (lists_of of_left of_right) X) ≡ n
    new-size = sym (extraction-moves (lists_of of_left of_right) X).same ∙ size

    pub makes : patched (take count row) plan ≡ new_bytes (lists_of of_left of_right) X ++ drop n plan
    makes =
        let whole : plan ≡ plan_bytes (tree.extracted X) ++ drop n plan =
        sym (take-append-drop n plan) ∙ ap (λ (l : List ℕ). l ++ drop n plan) t.bytes in
        ap (λ (l : List ℕ). patched l plan) are.2
        ∙ numbers-patch sound plan
        ∙ ap (patched_by (moved_spots (lists_of of_left of_right) X)) whole
        ∙ (extraction-moves (lists_of of_left of_right) X).patch [] (drop n plan) refl
