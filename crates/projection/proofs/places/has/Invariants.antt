-- `has`: found so far says whether the child index is among the items passed.
use mathlib.Core.Path.{◌≡◌}
use lib.ListN.{take}
use Rattle.definitions.specs.Filter.Project.{place_in, is_place}
use Rattle.projection.proofs.places.has.Given as goal

abbrev pub invariant-loop-item : goal.invariant-loop-item
invariant-loop-item l =
    l.found ≡ is_place (place_in (take l.item-index l.items) l.index)
