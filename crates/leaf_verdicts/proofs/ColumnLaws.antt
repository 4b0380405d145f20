-- The flags of what was seen say of columns what the definitions ask of their sides.
use Rattle.std.specs.Prelude.{if◌then◌else◌}
use mathlib.Core.Path.{◌≡◌, refl, ap, ap₂, ◌∙◌}
use mathlib.Core.Bool.{Bool, true, false, ◌&&◌, ◌||◌, not}
use mathlib.Core.List.{List}
use Rattle.definitions.specs.Words.Expression.{Side, left, right, no_side}
use Rattle.definitions.specs.Filter.Verdicts.{Verdict, first_without_columns, first_of_both, first_with_mark, second_without_columns, second_of_both, second_with_mark, both_left, both_right, bound_of_both, bound_with_mark, as_distance, of_both, of_mark}
use Rattle.theorems.proofs.VerdictSides.{of, none-by-bits, left-by-bits, right-by-bits}
use Rattle.leaf_matching.specs.declared.sides.SideFlags.{SideFlags}
use Rattle.leaf_matching.specs.Sides.{nothing_seen, see_all, side_flags}
use Rattle.leaf_matching.proofs.SideLaws.{flags-seen}
use Rattle.leaf_verdicts.specs.Columns.{order_reason, bound_reason, or_after}
use Rattle.leaf_verdicts.specs.Cases.{verdict_of}
use Rattle.leaf_verdicts.specs.Stages.{geometry_verdict, bound_verdict}

-- The flags of what was seen of columns with these sides.
abbrev seen : List Side → SideFlags
seen ss = side_flags (see_all nothing_seen ss)

-- ---- two geometries

-- Their verdict by the flags of each: by those of the first, and where it is right by those of the second.
by-flags : (l r m l' r' m' : Bool) (after : Verdict)
    → or_after (order_reason (record { left = l; right = r; mark = m }) (record { left = l'; right = r'; mark = m' })) after
    ≡ (if not (l || (r || m)) then first_without_columns else
    if l && r then first_of_both else
    if m then first_with_mark else
    if not (l' || (r' || m')) then second_without_columns else
    if l' && r' then second_of_both else
    if m' then second_with_mark else
    if (l && not (r || m)) && (l' && not (r' || m')) then both_left else
    if (r && not (l || m)) && (r' && not (l' || m')) then both_right else
    after)
by-flags false false false l' r' m' after = refl
by-flags false false true l' r' m' after = refl
by-flags true true m l' r' m' after = refl
by-flags true false true l' r' m' after = refl
by-flags false true true l' r' m' after = refl
by-flags true false false false false false after = refl
by-flags true false false false false true after = refl
by-flags true false false true true m' after = refl
by-flags true false false true false false after = refl
by-flags true false false true false true after = refl
by-flags true false false false true false after = refl
by-flags true false false false true true after = refl
by-flags false true false false false false after = refl
by-flags false true false false false true after = refl
by-flags false true false true true m' after = refl
by-flags false true false true false false after = refl
by-flags false true false true false true after = refl
by-flags false true false false true false after = refl
by-flags false true false false true true after = refl

pub geometries-told : (ss ts : List Side) (after : Verdict)
    → or_after (order_reason (seen ss) (seen ts)) after ≡ geometry_verdict ss ts after
unfolding geometry_verdict of_both of_mark
geometries-told ss ts after =
    ap₂ (λ (a b : SideFlags). or_after (order_reason a b) after) (flags-seen ss) (flags-seen ts)
    ∙ by-flags (of ss left) (of ss right) (of ss no_side) (of ts left) (of ts right) (of ts no_side) after
    ∙ rw (none-by-bits ss, none-by-bits ts, left-by-bits ss, left-by-bits ts, right-by-bits ss, right-by-bits ts) refl

-- ---- a bound

bound-by-flags : (l r m : Bool)
    → verdict_of (bound_reason (record { left = l; right = r; mark = m }))
    ≡ (if l && r then bound_of_both else if m then bound_with_mark else as_distance)
bound-by-flags true true m = refl
bound-by-flags true false true = refl
bound-by-flags true false false = refl
bound-by-flags false r true = refl
bound-by-flags false r false = refl

pub bound-told : (ss : List Side) → verdict_of (bound_reason (seen ss)) ≡ bound_verdict ss
unfolding bound_verdict of_both of_mark
bound-told ss = ap (λ (a : SideFlags). verdict_of (bound_reason a)) (flags-seen ss)
    ∙ bound-by-flags (of ss left) (of ss right) (of ss no_side)
