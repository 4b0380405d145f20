-- Laws of what has been seen of columns, and of the side that they are of.
use Rattle.std.specs.Prelude.{ℕ, bit_or, if◌then◌else◌}
use mathlib.Core.Path.{◌≡◌, refl, sym, ap, ◌∙◌}
use mathlib.Core.Bool.{Bool, true, false, ◌||◌, not}
use Rattle.std.proofs.Math.Bool.{or-true, or-false}
use mathlib.Core.List.{List, [], ◌∷◌}
use Rattle.definitions.specs.Words.Basics.{any}
use Rattle.definitions.specs.Words.Expression.{Side, left, right, no_side}
use Rattle.definitions.specs.Words.References.{same_side}
use Rattle.definitions.specs.Filter.Match.{all_on, mixed, common_side}
use Rattle.theorems.proofs.VerdictSides.{of, all-left, all-right, all-mark}
use Rattle.leaf_matching.specs.Sides.{argument_side, nothing_seen, see_all, sides_by, sides_seen, side_flags}

-- The bits by whether there are columns of the left child, of the right child, and mark columns.
unfoldable pub bits_of : (l r m : Bool) → ℕ
bits_of false false false = 0
bits_of true false false = 1
bits_of false true false = 2
bits_of true true false = 3
bits_of false false true = 4
bits_of true false true = 5
bits_of false true true = 6
bits_of true true true = 7

-- One more of each.
left-more : (l r m : Bool) → bit_or (bits_of l r m) 1 ≡ bits_of true r m
unfolding bits_of
left-more false false false = refl
left-more true false false = refl
left-more false true false = refl
left-more true true false = refl
left-more false false true = refl
left-more true false true = refl
left-more false true true = refl
left-more true true true = refl

right-more : (l r m : Bool) → bit_or (bits_of l r m) 2 ≡ bits_of l true m
unfolding bits_of
right-more false false false = refl
right-more true false false = refl
right-more false true false = refl
right-more true true false = refl
right-more false false true = refl
right-more true false true = refl
right-more false true true = refl
right-more true true true = refl

mark-more : (l r m : Bool) → bit_or (bits_of l r m) 4 ≡ bits_of l r true
unfolding bits_of
mark-more false false false = refl
mark-more true false false = refl
mark-more false true false = refl
mark-more true true false = refl
mark-more false false true = refl
mark-more true false true = refl
mark-more false true true = refl
mark-more true true true = refl

bits-seen : (l r m : Bool) (xs : List Side)
    → (see_all (record { bits = bits_of l r m }) xs).bits ≡ bits_of (l || of xs left) (r || of xs right) (m || of xs no_side)
unfolding see_all any same_side
bits-seen l r m [] = rw (or-false l, or-false r, or-false m) refl
bits-seen l r m (left ∷ xs) =
    ap (λ (n : ℕ). (see_all (record { bits = n }) xs).bits) (left-more l r m) ∙ bits-seen true r m xs
    ∙ ap (λ (b : Bool). bits_of b (r || of xs right) (m || of xs no_side)) (sym (or-true l))
bits-seen l r m (right ∷ xs) =
    ap (λ (n : ℕ). (see_all (record { bits = n }) xs).bits) (right-more l r m) ∙ bits-seen l true m xs
    ∙ ap (λ (b : Bool). bits_of (l || of xs left) b (m || of xs no_side)) (sym (or-true r))
bits-seen l r m (no_side ∷ xs) =
    ap (λ (n : ℕ). (see_all (record { bits = n }) xs).bits) (mark-more l r m) ∙ bits-seen l r true xs
    ∙ ap (λ (b : Bool). bits_of (l || of xs left) (r || of xs right) b) (sym (or-true m))

all-seen : (xs : List Side) → (see_all nothing_seen xs).bits ≡ bits_of (of xs left) (of xs right) (of xs no_side)
unfolding bits_of
all-seen xs = bits-seen false false false xs

-- So each flag says whether there is one of its side.
flags-by : (l r m : Bool) → side_flags (record { bits = bits_of l r m }) ≡ record { left = l; right = r; mark = m }
unfolding bits_of
flags-by false false false = refl
flags-by true false false = refl
flags-by false true false = refl
flags-by true true false = refl
flags-by false false true = refl
flags-by true false true = refl
flags-by false true true = refl
flags-by true true true = refl

pub flags-seen : (xs : List Side)
    → side_flags (see_all nothing_seen xs) ≡ record { left = of xs left; right = of xs right; mark = of xs no_side }
flags-seen xs = ap (λ (n : ℕ). side_flags (record { bits = n })) (all-seen xs) ∙ flags-by (of xs left) (of xs right) (of xs no_side)

-- ---- the side of them all

if-left : (r m : Bool) → argument_side (sides_by (bits_of true r m)) ≡ (if not (r || m) then all_on left else mixed)
unfolding bits_of
if-left false false = refl
if-left false true = refl
if-left true false = refl
if-left true true = refl

if-right : (l m : Bool) → argument_side (sides_by (bits_of l true m)) ≡ (if not (l || m) then all_on right else mixed)
unfolding bits_of
if-right false false = refl
if-right false true = refl
if-right true false = refl
if-right true true = refl

if-mark : (l r : Bool) → argument_side (sides_by (bits_of l r true)) ≡ (if not (l || r) then all_on no_side else mixed)
unfolding bits_of
if-mark false false = refl
if-mark false true = refl
if-mark true false = refl
if-mark true true = refl

common-by-bits : (xs : List Side) → argument_side (sides_by (bits_of (of xs left) (of xs right) (of xs no_side))) ≡ common_side xs
unfolding common_side any same_side
common-by-bits [] = unfold bits_of in refl
common-by-bits (left ∷ xs) = rw (all-left xs) (if-left (of xs right) (of xs no_side))
common-by-bits (right ∷ xs) = rw (all-right xs) (if-right (of xs left) (of xs no_side))
common-by-bits (no_side ∷ xs) = rw (all-mark xs) (if-mark (of xs left) (of xs right))

-- What has been seen is the side of them all.
pub seen_all : (xs : List Side) → argument_side (sides_seen (see_all nothing_seen xs)) ≡ common_side xs
seen_all xs = ap (λ (n : ℕ). argument_side (sides_by n)) (all-seen xs) ∙ common-by-bits xs
