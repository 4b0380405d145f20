-- `list_matches`: an And is passed, a leaf is listed behind those before it; where no node is left, all are.
use native.Mathlib.Omega.{arith}
use Prim.Native.Nat.{◌+◌, ◌≤◌}
use mathlib.Core.Path.{◌≡◌}
use mathlib.Core.List.{[], ◌∷◌}
use lib.ListN.{length}
use Rattle.definitions.specs.Words.Leaves.{leaves}
use Rattle.expression.specs.Nodes.{OfTree}
use Rattle.expression.proofs.AndLeaves.{single-leaf}
use Rattle.call_extract_all.proofs.listing.ListWalk.{listing-begins, listing-ends, listing-passes, here-node, here-tree, here-noded}
use Rattle.call_extract_all.proofs.listing.ListWalk.{leaf-fits, sums-fit, listing-goes-on}
use Rattle.call_extract_all.proofs.listing.list_matches.Goals as goal
use Rattle.call_extract_all.proofs.listing.list_matches.Goals.{After-list_leaf-one, In_default}

-- What is no And is its only AND-leaf.
lone : (c : In_default) → OfTree c.args.listing.filter.tree.bytes.now c.start-at.result (λ t. leaves t ≡ t ∷ [])
lone c d t stands = single-leaf c.node_at-node.result c.node_at-node.ensures stands c.in_default.not-And

-- No sum wraps.
sums : (c : After-list_leaf-one)
    → let tally = c.loop-index.tally in
    let one = c.list_leaf-one.result in
    (tally.knn + one.knn ≤ length c.args.knns.now) × (tally.other + one.other ≤ length c.args.others.now)
    × (tally.rounds + one.rounds ≤ length c.args.gone.now)
sums c =
    let loop = c.loop-index in
    sums-fit loop.invariant c.in-Some.ensures.steps c.requires.list_fits c.start-at.ensures
    (λ d t stands. single-leaf c.node_at-node.result c.node_at-node.ensures stands c.in_default.not-And) loop.auto.knns loop.auto.others
    c.list_leaf-one.ensures

pub of-index-items-requires : goal.of-index-items-requires
of-index-items-requires c =
    let p = c.requires in (_, _, p.of_tree _ _ p.list_fits.frame.tree)

pub loop-index-init : goal.loop-index-init
loop-index-init c =
    rw c.into_iter-index-iterator.ensures.into_iter_gives (listing-begins c.requires.of_tree c.of-index-items.ensures)

pub start-at-requires : goal.start-at-requires
start-at-requires c = here-node c.loop-index.invariant c.in-Some.ensures.steps c.requires.list_fits

pub node_at-node-requires : goal.node_at-node-requires
node_at-node-requires c =
    here-tree c.loop-index.invariant c.in-Some.ensures.steps c.requires.list_fits c.start-at.ensures

pub loop-index-preserved-in-And : goal.loop-index-preserved-in-And
loop-index-preserved-in-And c =
    listing-passes c.loop-index.invariant c.in-Some.ensures.steps c.requires.list_fits c.start-at.ensures
    c.node_at-node.ensures c.in-And.is

pub list_leaf-one-requires : goal.list_leaf-one-requires
list_leaf-one-requires c =
    let loop = c.loop-index in
    let f = c.requires.list_fits in
    record {
      list_fits = leaf-fits loop.invariant c.in-Some.ensures.steps f c.start-at.ensures
          (lone (goal.at.list_leaf-one-requires c).In_default) loop.auto.knns loop.auto.others loop.auto.gone;
      of_tree = here-noded loop.invariant c.in-Some.ensures.steps f c.start-at.ensures;
      of_tree_in = c.node_at-node.ensures;
      leaf_alone = lone (goal.at.list_leaf-one-requires c).In_default;
    }

pub overflow_add-tally : goal.overflow_add-tally
overflow_add-tally c =
    omega (arith, c.well_formed, sums (goal.at.overflow_add-tally c).After-list_leaf-one)

pub overflow_add-tally-in-loop-index : goal.overflow_add-tally-in-loop-index
overflow_add-tally-in-loop-index c =
    omega (arith, c.well_formed, sums (goal.at.overflow_add-tally-in-loop-index c).After-list_leaf-one)

pub overflow_add-tally-in-loop-index-2 : goal.overflow_add-tally-in-loop-index-2
overflow_add-tally-in-loop-index-2 c =
    omega (arith, c.well_formed, sums (goal.at.overflow_add-tally-in-loop-index-2 c).After-list_leaf-one)

pub loop-index-preserved : goal.loop-index-preserved
loop-index-preserved c =
    let loop = c.loop-index in
    listing-goes-on loop.invariant c.in-Some.ensures.steps c.requires.list_fits c.start-at.ensures
    (lone (goal.at.loop-index-preserved c).In_default) loop.auto.knns loop.auto.others c.list_leaf-one.ensures

pub returns : goal.returns
returns c =
    listing-ends c.loop-index.invariant c.args.listing.to.now c.in-None.ensures.steps.0
