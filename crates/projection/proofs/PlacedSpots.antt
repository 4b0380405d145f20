-- What the places put into the numbers of an extraction's child indexes say of them: found for both sides, they are the projection's, and
-- none is lacking exactly if the projection has them all.
use Rattle.std.specs.Prelude.{if◌then◌else◌}
use Prim.Native.Nat.{ℕ, ◌+◌, ◌-◌, ◌*◌, ◌%◌, ◌≤◌, ◌<◌}
use native.Mathlib.Omega.{arith}
use mathlib.Core.Path.{◌≡◌, refl, sym, ap, ap₂, ◌∙◌, subst}
use mathlib.Core.Bool.{Bool, true, false, ◌&&◌}
use mathlib.Core.List.{List, [], ◌∷◌, map}
use mathlib.Core.Option.{Option, none, some}
use lib.ListN.{length}
use lib.Dec.{eqb}
use Rattle.definitions.specs.Words.Basics.{all}
use Rattle.definitions.specs.Words.Limits.{most_items}
use Rattle.definitions.specs.Words.Expression.{Side, left, right, no_side}
use Rattle.definitions.specs.Bytes.Encode.{side_number}
use Rattle.definitions.specs.Filter.Project.{place_in, ChildLists, place_of, is_place, or_zero, new_place, has_place}
use Rattle.projection.proofs.PlaceLaws.{place-within}
use Rattle.projection.specs.Spots.{Spot, spot_number}
use Rattle.projection.specs.Placing.{goes_by, has_number, placed_number, PlacedIs}
use Rattle.projection.specs.Projected.{ListsFit, moved}
use Rattle.projection.proofs.SoundSpots.{AllSound, nothing, also, number-side, number-child}

-- ---- one child index

-- Of one side replaced by its place in a list; those of other sides stay.
abbrev pub moved_by : Side → (items : List ℕ) → Spot → Spot
moved_by side items e = record {
  side = e.side;
  at = e.at;
  child = if eqb (side_number e.side) (side_number side) then or_zero (place_in items e.child) else e.child;
}

-- Whether the list of one side has it.
abbrev pub has_by : Side → (items : List ℕ) → Spot → Bool
has_by side items e = if eqb (side_number e.side) (side_number side) then is_place (place_in items e.child) else true

module _ (side : Side) (items : List ℕ) (e : Spot) (short : e.child < 65536) where
  goes : goes_by (side_number side) (spot_number e) ≡ eqb (side_number e.side) (side_number side)
  goes = ap (λ (n : ℕ). eqb n (side_number side)) (number-side e short)

  number-moved : placed_number (side_number side) items (spot_number e) ≡ spot_number (moved_by side items e)
  unfolding placed_number
  number-moved =
      ap₂ (λ (t : Bool) (c : ℕ). if t then spot_number e - spot_number e % 65536 + or_zero (place_in items c) else spot_number e) goes
      (number-child e short)
      ∙ either (eqb (side_number e.side) (side_number side)) (or_zero (place_in items e.child))
    where
      either : (t : Bool) (place : ℕ) → (if t then spot_number e - spot_number e % 65536 + place else spot_number e)
          ≡ (e.at * 4 + side_number e.side) * 65536 + (if t then place else e.child)
      either true place = omega (arith, number-child e short)
      either false place = refl

  number-has : has_number (side_number side) items (spot_number e) ≡ has_by side items e
  unfolding has_number
  number-has = ap₂ (λ (t : Bool) (c : ℕ). if t then is_place (place_in items c) else true) goes (number-child e short)

-- A place is short.
low : (items : List ℕ) (child : ℕ) → length items ≤ most_items → or_zero (place_in items child) < 65536
unfolding or_zero
low items child few = by (place_in items child) refl
  where
    by : (p : Option ℕ) → place_in items child ≡ p → or_zero p < 65536
    by none e = omega arith
    by (some place) e = omega (arith, place-within items child place (sym e))

-- ---- all of one side

module _ (side : Side) (items : List ℕ) where
  numbers-moved : {end : ℕ} {es : List Spot} → AllSound end es
      → map (placed_number (side_number side) items) (map spot_number es) ≡ map spot_number (map (moved_by side items) es)
  numbers-moved nothing = refl
  numbers-moved (also e inside short rest) = ap₂ ◌∷◌ (number-moved side items e short) (numbers-moved rest)

  numbers-have : {end : ℕ} {es : List Spot} → AllSound end es
      → all (has_number (side_number side) items) (map spot_number es) ≡ all (has_by side items) es
  unfolding all
  numbers-have nothing = refl
  numbers-have (also e inside short rest) = ap₂ ◌&&◌ (number-has side items e short) (numbers-have rest)

  pub still-sound : {end : ℕ} {es : List Spot} → length items ≤ most_items → AllSound end es → AllSound end (map (moved_by side items) es)
  still-sound few nothing = nothing
  still-sound few (also e inside short rest) =
      also (moved_by side items e) inside (either (eqb (side_number e.side) (side_number side))) (still-sound few rest)
    where
      either : (t : Bool) → (if t then or_zero (place_in items e.child) else e.child) < 65536
      either true = low items e.child few
      either false = short

-- ---- both sides, one after the other

module _ (lists : ChildLists) where
  abbrev by_left : Spot → Spot
  by_left = moved_by left lists.of_left

  abbrev by_right : Spot → Spot
  by_right = moved_by right lists.of_right

  both-moved : (side : Side) (at child : ℕ) → let e : Spot = record { side = side; at = at; child = child } in
      by_right (by_left e) ≡ moved lists e
  unfolding side_number new_place place_of or_zero
  both-moved left at child = refl
  both-moved right at child = refl
  both-moved no_side at child = refl

  pub all_moved : (es : List Spot) → map by_right (map by_left es) ≡ map (moved lists) es
  all_moved [] = refl
  all_moved (e ∷ es) = ap₂ ◌∷◌ (both-moved e.side e.at e.child) (all_moved es)

  -- Whether the lists have it.
  abbrev pub has : Spot → Bool
  has e = has_place lists e.side e.child

  both-have : (side : Side) (at child : ℕ) → let e : Spot = record { side = side; at = at; child = child } in
      has e ≡ (has_by left lists.of_left e && has_by right lists.of_right (by_left e))
  unfolding side_number has_place place_of is_place
  both-have left at child = whatever (is_place (place_in lists.of_left child))
    where
      whatever : (t : Bool) → t ≡ t && true
      whatever true = refl
      whatever false = refl
  both-have right at child = refl
  both-have no_side at child = refl

  shuffle : (a b x y : Bool) → ((a && b) && (x && y)) ≡ ((a && x) && (b && y))
  shuffle true b true y = refl
  shuffle true true false y = refl
  shuffle true false false y = refl
  shuffle false b x y = refl

  pub all_have : (es : List Spot) → all has es ≡ (all (has_by left lists.of_left) es && all (has_by right lists.of_right) (map by_left es))
  unfolding all
  all_have [] = refl
  all_have (e ∷ es) =
      ap₂ ◌&&◌ (both-have e.side e.at e.child) (all_have es)
      ∙ shuffle (has_by left lists.of_left e) (has_by right lists.of_right (by_left e)) (all (has_by left lists.of_left) es)
      (all (has_by right lists.of_right) (map by_left es))

-- ---- the row

-- Places were sought in a row of the numbers of child indexes.
module _ (side : Side) (items : List ℕ) {end : ℕ} {es : List Spot} (before after : List ℕ) (sound : AllSound end es)
    (are : before ≡ map spot_number es) where
  pub found_all : PlacedIs (side_number side) items before after true
      → (all (has_by side items) es ≡ true) × (after ≡ map spot_number (map (moved_by side items) es))
  found_all h = (
    sym (numbers-have side items sound) ∙ ap (all (has_number (side_number side) items)) (sym are) ∙ h.0,
    h.1 ∙ ap (map (placed_number (side_number side) items)) are ∙ numbers-moved side items sound,
  )

  pub found-not : PlacedIs (side_number side) items before after false → all (has_by side items) es ≡ false
  found-not h = sym (numbers-have side items sound) ∙ ap (all (has_number (side_number side) items)) (sym are) ∙ h

-- Once all are places, they are short still.
pub moved-sound : {of_left of_right : List ℕ} {end : ℕ} {es : List Spot} → ListsFit of_left of_right → AllSound end es
    → AllSound end (map (moved (record { of_left = of_left; of_right = of_right })) es)
moved-sound {of_left} {of_right} {end} {es} fit sound =
    subst (AllSound end) (all_moved (record { of_left = of_left; of_right = of_right }) es)
    (still-sound right of_right fit.second (still-sound left of_left fit.first sound))
