-- `swap_for_swapped_children`: the geometries change places, and the side is the other.
use mathlib.Core.Path.{sym, ap, ◌∙◌}
use Rattle.definitions.specs.Words.Expression.{Side, distance}
use Rattle.definitions.specs.Filter.Exchange.{exchange_predicate}
use Rattle.sedona_query_planner.proofs.spatial_predicate.DistancePredicate.swap_for_swapped_children.Goals as goal

pub returns : goal.returns
unfolding exchange_predicate
returns c =
    λ s P h.
    let is = ap exchange_predicate h.is
    ∙ ap (λ (side : Side). distance c.args.self.form side h.r h.l h.bound) (sym c.negate.ensures) in
    record { l = h.r; r = h.l; bound = h.bound; left = h.right; right = h.left; limit = h.limit; is = is }
