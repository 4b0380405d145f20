-- `swap_for_swapped_children`: the arguments change places, and the type is its inverse.
use mathlib.Core.Path.{sym, ap, ◌∙◌}
use Rattle.definitions.specs.Words.Expression.{Relation, relation}
use Rattle.definitions.specs.Filter.Exchange.{exchange_predicate}
use Rattle.sedona_query_planner.proofs.spatial_predicate.RelationPredicate.swap_for_swapped_children.Goals as goal

pub returns : goal.returns
unfolding exchange_predicate
returns c =
    λ s P h.
    let is = ap exchange_predicate h.is ∙ ap (λ (type : Relation). relation type h.r h.l) (sym c.invert.ensures) in
    record { l = h.r; r = h.l; left = h.right; right = h.left; is = is }
