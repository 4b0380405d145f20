-- `swap_for_swapped_children`: query and object stay, and the probe side is the other.
use mathlib.Core.Path.{sym, ap, ◌∙◌}
use Rattle.definitions.specs.Words.Expression.{Side, knn}
use Rattle.definitions.specs.Filter.Exchange.{exchange_predicate}
use Rattle.sedona_query_planner.specs.Predicates.{flag, ties_number}
use Rattle.sedona_query_planner.proofs.spatial_predicate.KNNPredicate.swap_for_swapped_children.Goals as goal

pub returns : goal.returns
unfolding exchange_predicate
returns c =
    λ s P h.
    let p = c.args.self in
    record {
      l = h.l;
      r = h.r;
      left = h.left;
      right = h.right;
      is = ap exchange_predicate h.is
          ∙ ap (λ (side : Side). knn p.k (flag p.use_spheroid) side (ties_number p.include_tie_breakers) h.l h.r)
          (sym c.negate.ensures);
    }
