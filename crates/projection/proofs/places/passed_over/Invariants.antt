-- `passed_over`: the items passed lack the child index.
use Prim.Native.Nat.{◌-◌, ◌≤◌}
use mathlib.Core.Path.{◌≡◌}
use mathlib.Core.Option.{none}
use lib.ListN.{length, take}
use Rattle.definitions.specs.Filter.Project.{place_in}
use Rattle.projection.proofs.places.passed_over.Given as goal

abbrev pub invariant-loop-start : goal.invariant-loop-start
invariant-loop-start l =
    record { within : l.start ≤ length l.items; none : place_in (take l.start l.items) l.index ≡ none }

abbrev pub decreases-loop-start : goal.decreases-loop-start
decreases-loop-start l =
    length l.items - l.start
