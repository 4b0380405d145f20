-- What the answers about columns mean.
use Rattle.std.specs.Prelude.{ℕ, ◌+◌, ◌≡◌, Bool, true, false, List, Option, Some, None}
use Rattle.definitions.specs.Words.Expression.{Expr, Record}
use Rattle.definitions.specs.Bytes.Good.{nodes}
use Rattle.definitions.specs.Filter.Verdicts as definitions
use Rattle.definitions.specs.Filter.Verdicts.{sides_of}
use Rattle.leaf_matching.specs.declared.sides.SideFlags.{SideFlags}
use Rattle.leaf_verdicts.specs.Cases.{verdict_of}
use Rattle.leaf_verdicts.specs.Stages.{geometry_verdict, bound_verdict}
use Rattle.leaf_verdicts.specs.declared.geometries.Reasons.{Reasons}
use Rattle.leaf_verdicts.specs.declared.geometries.GeometriesVerdict.{GeometriesVerdict}
use Rattle.leaf_verdicts.specs.declared.verdict.Verdict.{Verdict}
use Rattle.leaf_verdicts.specs.declared.verdict.Verdict.TheVariants as verdict

-- ---- by the flags

abbrev pub geometry_by : (l r m : Bool) → Reasons → Option Verdict
geometry_by false false false reasons = Some reasons.without
geometry_by true true m reasons = Some reasons.both
geometry_by true false true reasons = Some reasons.mark
geometry_by false true true reasons = Some reasons.mark
geometry_by false false true reasons = Some reasons.mark
geometry_by true false false reasons = None
geometry_by false true false reasons = None

abbrev pub geometry_reason : SideFlags → Reasons → Option Verdict
geometry_reason of reasons = geometry_by of.left of.right of.mark reasons

abbrev pub same_by : (l m : Bool) → Option Verdict
same_by true true = Some verdict.BothLeft
same_by false false = Some verdict.BothRight
same_by true false = None
same_by false true = None

abbrev pub same_child : (first second : SideFlags) → Option Verdict
same_child first second = same_by first.left second.left

abbrev pub of_first : Reasons
of_first = record { without = verdict.FirstWithoutColumns; both = verdict.FirstOfBoth; mark = verdict.FirstWithMark }

abbrev pub of_second : Reasons
of_second = record { without = verdict.SecondWithoutColumns; both = verdict.SecondOfBoth; mark = verdict.SecondWithMark }

-- The first reason, else the other.
abbrev pub else : Option Verdict → Option Verdict → Option Verdict
else (Some why) other = Some why
else None other = other

abbrev pub order_reason : (first second : SideFlags) → Option Verdict
order_reason first second = else (geometry_reason first of_first) (else (geometry_reason second of_second) (same_child first second))

abbrev pub bound_by : (l r m : Bool) → Verdict
bound_by true true m = verdict.BoundOfBoth
bound_by true false true = verdict.BoundWithMark
bound_by false r true = verdict.BoundWithMark
bound_by true false false = verdict.AsDistance
bound_by false r false = verdict.AsDistance

abbrev pub bound_reason : SideFlags → Verdict
bound_reason of = bound_by of.left of.right of.mark

-- ---- of what stands at a place

-- What a reason is, or what comes after it where there is none.
abbrev pub or_after : Option Verdict → (after : definitions.Verdict) → definitions.Verdict
or_after (Some why) after = verdict_of why
or_after None after = after

-- The index of the second of two geometries, and what is wrong with them.
pub record GeometriesTold (i : ℕ) (r : GeometriesVerdict) (records : List Record) (a b : Expr) : Type 0 where
  pub second : r.second ≡ i + nodes a
  pub told : (after : definitions.Verdict) → or_after r.reason after ≡ geometry_verdict (sides_of records a) (sides_of records b) after

-- What is wrong with a bound.
abbrev pub BoundTold : Verdict → (records : List Record) → Expr → Type 0
BoundTold r records d = verdict_of r ≡ bound_verdict (sides_of records d)
