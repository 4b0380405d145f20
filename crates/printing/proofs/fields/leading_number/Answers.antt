-- `leading_number`: one byte or two stand after the kind, by the kind.
use Prim.Native.Nat.{◌<◌}
use native.Mathlib.Omega.{arith}
use mathlib.Core.Path.{◌∙◌}
use lib.ListN.{get_or}
use Rattle.printing.proofs.NodeFields.{short-leads, byte-leads, kind-within, byte-within, short-within}
use Rattle.printing.proofs.fields.leading_number.Goals as goal
use Rattle.printing.proofs.fields.leading_number.Goals.{In_default, in_default-via-then-src-at-lt1, in_default-via-else-src-at-lt1+else-this-lt4}

-- In the last arm the kind is neither 1, 2 nor 3.
outside : (c : In_default) → let a =
    c.args in 0 < get_or a.src.now a.at 0 → get_or a.src.now a.at 0 < 4 → ⊥
outside c some few =
    elim c.in_default.branch [
      | in_default-via-then-src-at-lt1 w ↦ omega arith
      | in_default-via-else-src-at-lt1+else-this-lt4 w ↦ omega arith
    ]

pub bounds-src-at : goal.bounds-src-at
bounds-src-at c =
    kind-within c.requires.1

pub bounds-src-at-in-1-to-3 : goal.bounds-src-at-in-1-to-3
bounds-src-at-in-1-to-3 c =
    omega (arith, byte-within c.requires.1)

pub short_at-requires : goal.short_at-requires
short_at-requires c =
    omega (arith, short-within c.requires.1 (outside (goal.at.short_at-requires c).In_default))

pub returns-in-1-to-3 : goal.returns-in-1-to-3
returns-in-1-to-3 c =
    λ t h. rw c.from.ensures (byte-leads t h (omega arith) (omega arith))

pub returns-in_default : goal.returns-in_default
returns-in_default c =
    λ t h. c.short_at.ensures ∙ short-leads t h (outside (goal.at.returns-in_default c).In_default)
