-- Whether columns are left, right or marks, a bit each, decides the reasons as it decides the order: no reason applies where they match.
use Rattle.std.specs.Prelude.{if◌then◌else◌}
use mathlib.Core.Path.{◌≡◌, refl, sym, ap, ap₂, ◌∙◌}
use mathlib.Core.Bool.{Bool, true, false, ◌&&◌, ◌||◌, not, false≢true, and-true, and-false, or-true}
use mathlib.Core.List.{List, [], ◌∷◌}
use Rattle.definitions.specs.Words.Basics.{any, all}
use Rattle.definitions.specs.Words.Expression.{Side, left, right, no_side}
use Rattle.definitions.specs.Words.References.{same_side}
use Rattle.definitions.specs.Filter.Match.{ArgumentSide, no_columns, all_on, mixed, common_side, is_side, Order, left_right, right_left, no_order, order_of}
use Rattle.definitions.specs.Filter.Verdicts.{none_of, of_both, of_mark, only_of}

pub not-and : (a b : Bool) → not (a && b) ≡ (not a || not b)
not-and true b = refl
not-and false b = refl

-- ---- the bits of columns

module _ (ss : List Side) where
  abbrev pub of : Side → Bool
  of s = any (same_side s) ss

  -- Columns, and all left, or all right.
  abbrev pub left-alone : Bool
  left-alone = of left && not (of right || of no_side)

  abbrev pub right-alone : Bool
  right-alone = of right && not (of left || of no_side)

pub all-left : (ss : List Side) → all (same_side left) ss ≡ not (of ss right || of ss no_side)
unfolding all any same_side
all-left [] = refl
all-left (left ∷ ss) = all-left ss
all-left (right ∷ ss) = refl
all-left (no_side ∷ ss) = sym (ap not (or-true (of ss right)))

pub all-right : (ss : List Side) → all (same_side right) ss ≡ not (of ss left || of ss no_side)
unfolding all any same_side
all-right [] = refl
all-right (left ∷ ss) = refl
all-right (right ∷ ss) = all-right ss
all-right (no_side ∷ ss) = sym (ap not (or-true (of ss left)))

pub all-mark : (ss : List Side) → all (same_side no_side) ss ≡ not (of ss left || of ss right)
unfolding all any same_side
all-mark [] = refl
all-mark (left ∷ ss) = refl
all-mark (right ∷ ss) = sym (ap not (or-true (of ss left)))
all-mark (no_side ∷ ss) = all-mark ss

pub none-by-bits : (ss : List Side) → none_of ss ≡ not (of ss left || (of ss right || of ss no_side))
unfolding none_of any same_side
none-by-bits [] = refl
none-by-bits (left ∷ ss) = refl
none-by-bits (right ∷ ss) = simp or-true
none-by-bits (no_side ∷ ss) = simp or-true

-- All are of a side if the first is and the others are as it.
if-side : (s t : Side) (b : Bool) → is_side s (if b then all_on t else mixed) ≡ (same_side s t && b)
unfolding is_side
if-side s t true = sym (and-true (same_side s t))
if-side s t false = sym (and-false (same_side s t))

pub left-by-bits : (ss : List Side) → only_of left ss ≡ left-alone ss
unfolding only_of common_side any same_side
left-by-bits [] = unfold is_side in refl
left-by-bits (left ∷ ss) = if-side left left (all (same_side left) ss) ∙ all-left ss
left-by-bits (right ∷ ss) = if-side left right (all (same_side right) ss) ∙ sym (and-false (of ss left))
left-by-bits (no_side ∷ ss) = if-side left no_side (all (same_side no_side) ss) ∙ simp (or-true, and-false)

pub right-by-bits : (ss : List Side) → only_of right ss ≡ right-alone ss
unfolding only_of common_side any same_side
right-by-bits [] = unfold is_side in refl
right-by-bits (left ∷ ss) = if-side right left (all (same_side left) ss) ∙ sym (and-false (of ss right))
right-by-bits (right ∷ ss) = if-side right right (all (same_side right) ss) ∙ all-right ss
right-by-bits (no_side ∷ ss) = if-side right no_side (all (same_side no_side) ss) ∙ simp (or-true, and-false)

-- ---- two geometries

-- One left and one right.
unfoldable pub ordered : Order → Bool
ordered left_right = true
ordered right_left = true
ordered no_order = false

-- The reasons of two geometries, before others.
abbrev pub geometry_reasons : (a b : List Side) → Bool → Bool
geometry_reasons a b rest =
    none_of a || (of_both a || (of_mark a || (none_of b || (of_both b || (of_mark b ||
    ((only_of left a && only_of left b) || ((only_of right a && only_of right b) || rest)))))))

-- By the bits of the first, and where it is fine by those of the second.
by-bits : (l r m l' r' m' rest : Bool)
    → (not (l || (r || m)) || ((l && r) || (m || (not (l' || (r' || m')) || ((l' && r') || (m' ||
    (((l && not (r || m)) && (l' && not (r' || m'))) || (((r && not (l || m)) && (r' && not (l' || m'))) || rest))))))))
    ≡ (not (ordered (if (l && not (r || m)) && (r' && not (l' || m')) then left_right else
    if (r && not (l || m)) && (l' && not (r' || m')) then right_left else no_order)) || rest)
unfolding ordered
by-bits false false false l' r' m' rest = refl
by-bits false false true l' r' m' rest = refl
by-bits true true m l' r' m' rest = refl
by-bits true false true l' r' m' rest = refl
by-bits false true true l' r' m' rest = refl
by-bits true false false false false false rest = refl
by-bits true false false false false true rest = refl
by-bits true false false true true m' rest = refl
by-bits true false false true false false rest = refl
by-bits true false false true false true rest = refl
by-bits true false false false true false rest = refl
by-bits true false false false true true rest = refl
by-bits false true false false false false rest = refl
by-bits false true false false false true rest = refl
by-bits false true false true true m' rest = refl
by-bits false true false true false false rest = refl
by-bits false true false true false true rest = refl
by-bits false true false false true false rest = refl
by-bits false true false false true true rest = refl

pub geometries-are : (a b : List Side) (rest : Bool)
    → geometry_reasons a b rest ≡ (not (ordered (order_of (common_side a) (common_side b))) || rest)
unfolding only_of order_of of_both of_mark
geometries-are a b rest =
    rw (none-by-bits a, none-by-bits b, left-by-bits a, left-by-bits b, right-by-bits a, right-by-bits b)
    (by-bits (of a left) (of a right) (of a no_side) (of b left) (of b right) (of b no_side) rest)

-- ---- a bound

-- One that a distance can have.
unfoldable pub bound-ok : ArgumentSide → Bool
bound-ok no_columns = true
bound-ok (all_on left) = true
bound-ok (all_on right) = true
bound-ok (all_on no_side) = false
bound-ok mixed = false

if-bound : (s : Side) (b : Bool)
    → bound-ok (if b then all_on s else mixed)
    ≡ (is_side left (if b then all_on s else mixed) || is_side right (if b then all_on s else mixed))
unfolding bound-ok is_side same_side
if-bound left true = refl
if-bound right true = refl
if-bound no_side true = refl
if-bound s false = refl

-- By the bits of a bound that has a column.
bound-by-bits : (l r m rest : Bool) → false ≡ not (l || (r || m))
    → ((l && r) || (m || rest)) ≡ (not ((l && not (r || m)) || (r && not (l || m))) || rest)
bound-by-bits true true m rest e = refl
bound-by-bits true false true rest e = refl
bound-by-bits true false false rest e = refl
bound-by-bits false true true rest e = refl
bound-by-bits false true false rest e = refl
bound-by-bits false false true rest e = refl
bound-by-bits false false false rest e = absurd (false≢true e)

pub bounds-are : (ss : List Side) (rest : Bool) → (of_both ss || (of_mark ss || rest)) ≡ (not (bound-ok (common_side ss)) || rest)
unfolding of_both of_mark only_of common_side
bounds-are [] rest = unfold any bound-ok in refl
bounds-are (s ∷ ss) rest =
    bound-by-bits (of (s ∷ ss) left) (of (s ∷ ss) right) (of (s ∷ ss) no_side) rest (unfold none_of in none-by-bits (s ∷ ss))
    ∙ ap (λ (b : Bool). not b || rest)
    (sym (if-bound s (all (same_side s) ss) ∙ ap₂ ◌||◌ (left-by-bits (s ∷ ss)) (right-by-bits (s ∷ ss))))
