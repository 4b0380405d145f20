-- `collect_spatial_predicate_names`: the leaves among the nodes that are left come after those that were seen.
use Rattle.logical_filter.proofs.LeafLoop.{collecting-begins, collecting-there, collecting-next, all-collected}
use Rattle.logical_filter.proofs.predicate_names.collect_spatial_predicate_names.Goals as goal

pub loop-index-init : goal.loop-index-init
loop-index-init c = λ d p t stands h.
    rw c.into_iter-index-iterator.ensures.into_iter_gives (collecting-begins (c.of-index-items.ensures d p t stands h))

pub node_bit-requires : goal.node_bit-requires
node_bit-requires c =
    let r = c.requires in collecting-there (c.loop-index.invariant r.0 r.1 r.2 r.3 r.4) c.in-Some.ensures.steps

pub loop-index-preserved : goal.loop-index-preserved
loop-index-preserved c = λ d p t stands h.
    rw c.with-all.ensures
    (collecting-next (c.loop-index.invariant d p t stands h) c.in-Some.ensures.steps _ c.node_bit.ensures)

pub returns : goal.returns
returns c = λ d p t stands h. all-collected (c.loop-index.invariant d p t stands h) c.in-None.ensures.steps.0
