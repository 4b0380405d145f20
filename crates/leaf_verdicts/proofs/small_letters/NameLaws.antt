-- A name has a line exactly where it is one of the spatial names: each of these has one, and any other name is none of them.
use Prim.Native.Nat.{ℕ, zero, suc, ◌<◌}
use native.Mathlib.Omega.{arith}
use mathlib.Core.Path.{◌≡◌, refl, sym, ap, ◌∙◌}
use mathlib.Core.Bool.{Bool, true, false, ◌&&◌, ◌||◌, not, false≢true}
use mathlib.Core.List.{List, [], ◌∷◌}
use lib.ListN.{length, get_or}
use Rattle.definitions.specs.Words.Basics.{ascii, same_name, any, all}
use Rattle.definitions.specs.Words.Expression.{relations}
use Rattle.definitions.specs.Words.Leaves.{type_named, relation_named}
use Rattle.definitions.specs.Filter.Names.{spatial_names}
use Rattle.definitions.specs.Filter.Verdicts.{is_no_line, line_named}
use Rattle.theorems.proofs.Tools.{same-name}

-- ---- one of several names

and-first : (a b : Bool) → a && b ≡ true → a ≡ true
and-first true b e = refl
and-first false b e = e

and-second : (a b : Bool) → a && b ≡ true → b ≡ true
and-second true b e = e
and-second false b e = absurd (false≢true e)

module _ (n : List ℕ) where
  -- What holds of each of several names holds of one that is among them.
  among : (P : List ℕ → Bool) (names : List (List ℕ)) → any (same_name n) names ≡ true → all P names ≡ true → P n ≡ true
  unfolding any all
  among P [] e h = absurd (false≢true e)
  among P (name ∷ names) e h = by-first (same_name n name) refl (among P names)
    where
      by-first : (b : Bool) → same_name n name ≡ b → (any (same_name n) names ≡ true → all P names ≡ true → P n ≡ true) → P n ≡ true
      by-first true same others = ap P (same-name n name same) ∙ and-first (P name) (all P names) h
      by-first false other others = others (sym (ap (λ (b : Bool). b || any (same_name n) names) other) ∙ e)
          (and-second (P name) (all P names) h)

  each-has-a-line : all (λ name. not (is_no_line (line_named name))) spatial_names ≡ true
  unfolding all spatial_names line_named relation_named type_named relations any same_name ascii is_no_line
  each-has-a-line = refl

  -- A name that is none of several is not one of them.
  none-at : (names : List (List ℕ)) → any (same_name n) names ≡ false → (i : ℕ) → i < length names → same_name n (get_or names i []) ≡ false
  unfolding any
  none-at [] e i h = absurd (omega (arith, h))
  none-at (name ∷ names) e i h = at-place i h (same_name n name) refl (none-at names)
    where
      at-place : (i : ℕ) → i < suc (length names) → (b : Bool) → same_name n name ≡ b
          → (any (same_name n) names ≡ false → (k : ℕ) → k < length names → same_name n (get_or names k []) ≡ false)
          → same_name n (get_or (name ∷ names) i []) ≡ false
      at-place i h true same others = absurd (false≢true (sym e ∙ ap (λ (b : Bool). b || any (same_name n) names) same))
      at-place zero h false other others = other
      at-place (suc k) h false other others = others (sym (ap (λ (b : Bool). b || any (same_name n) names) other) ∙ e) k (omega (arith, h))

  no-line : any (same_name n) spatial_names ≡ false → is_no_line (line_named n) ≡ true
  unfolding spatial_names line_named relation_named type_named relations any is_no_line
  no-line e =
      rw (
        (let other : same_name n (ascii "st_intersects") ≡ false = none-at spatial_names e 0 (omega arith) in other),
        (let other : same_name n (ascii "st_contains") ≡ false = none-at spatial_names e 1 (omega arith) in other),
        (let other : same_name n (ascii "st_within") ≡ false = none-at spatial_names e 2 (omega arith) in other),
        (let other : same_name n (ascii "st_covers") ≡ false = none-at spatial_names e 3 (omega arith) in other),
        (let other : same_name n (ascii "st_covered_by") ≡ false = none-at spatial_names e 4 (omega arith) in other),
        (let other : same_name n (ascii "st_coveredby") ≡ false = none-at spatial_names e 5 (omega arith) in other),
        (let other : same_name n (ascii "st_touches") ≡ false = none-at spatial_names e 6 (omega arith) in other),
        (let other : same_name n (ascii "st_crosses") ≡ false = none-at spatial_names e 7 (omega arith) in other),
        (let other : same_name n (ascii "st_overlaps") ≡ false = none-at spatial_names e 8 (omega arith) in other),
        (let other : same_name n (ascii "st_equals") ≡ false = none-at spatial_names e 9 (omega arith) in other),
        (let other : same_name n (ascii "st_dwithin") ≡ false = none-at spatial_names e 10 (omega arith) in other),
        (let other : same_name n (ascii "st_knn") ≡ false = none-at spatial_names e 11 (omega arith) in other),
        (let other : same_name n (ascii "rs_intersects") ≡ false = none-at spatial_names e 12 (omega arith) in other),
        (let other : same_name n (ascii "rs_contains") ≡ false = none-at spatial_names e 13 (omega arith) in other),
        (let other : same_name n (ascii "rs_within") ≡ false = none-at spatial_names e 14 (omega arith) in other),
      ) refl

  pub spatial-line : any (same_name n) spatial_names ≡ not (is_no_line (line_named n))
  spatial-line = by-any (any (same_name n) spatial_names) refl
    where
      by-any : (b : Bool) → any (same_name n) spatial_names ≡ b → any (same_name n) spatial_names ≡ not (is_no_line (line_named n))
      by-any true e = e ∙ sym (among (λ name. not (is_no_line (line_named name))) spatial_names e each-has-a-line)
      by-any false e = e ∙ sym (ap not (no-line e))
