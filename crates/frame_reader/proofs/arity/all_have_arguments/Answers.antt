-- `all_have_arguments`: a leaf that has enough is passed, an And needs nothing.
use Rattle.frame_reader.proofs.ArityLaws.{asked-begins, asked-node, lacks, goes-on, all-asked}
use Rattle.frame_reader.proofs.arity.all_have_arguments.Goals as goal

pub loop-index-init : goal.loop-index-init
loop-index-init c = rw c.into_iter-index-iterator.ensures.into_iter_gives (asked-begins c.of-index-items.ensures)

pub enough_arguments-requires : goal.enough_arguments-requires
enough_arguments-requires c =
    let r = c.requires in
    asked-node (c.loop-index.invariant r.0 r.1 r.2 r.3 r.4) c.in-Some.ensures.steps

pub returns-then-not-enough_arguments : goal.returns-then-not-enough_arguments
returns-then-not-enough_arguments c =
    λ d at t stands h.
    lacks (c.loop-index.invariant d at t stands h) c.in-Some.ensures.steps c.enough_arguments.ensures c.if-not-enough_arguments.true

pub loop-index-preserved : goal.loop-index-preserved
loop-index-preserved c =
    λ d at t stands h.
    goes-on (c.loop-index.invariant d at t stands h) c.in-Some.ensures.steps c.enough_arguments.ensures c.if-not-enough_arguments.false

pub returns : goal.returns
returns c =
    λ d at t stands h. all-asked (c.loop-index.invariant d at t stands h) c.in-None.ensures.steps.0
