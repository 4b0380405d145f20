-- `has`: found so far says whether the child index is among the items passed.
use mathlib.Core.Path.{refl, sym, ap, ◌∙◌}
use mathlib.Core.Bool.{Bool, ◌||◌}
use lib.ListN.{get_or}
use lib.Dec.{eqb}
use Rattle.definitions.specs.Filter.Project as project
use Rattle.projection.proofs.PlaceLaws.{has_next}
use Rattle.projection.proofs.places.has.Goals as goal

pub loop-item-init : goal.loop-item-init
unfolding project.place_in project.is_place
loop-item-init c = refl

pub loop-item-preserved : goal.loop-item-preserved
loop-item-preserved c =
    let a = c.args in
    let k = c.loop-item.item-index in
    ap (λ (found : Bool). found || eqb (get_or a.items.now k 0) a.index) c.loop-item.invariant
    ∙ sym (has_next a.items.now k a.index c.loop-item-test.true)
