-- `walk_once`: an And is passed, a leaf is read; where no node is left, all are read.
use native.Mathlib.Omega.{arith}
use Rattle.leaf_matching.proofs.Framing.{framed-tree}
use Rattle.leaf_pick.proofs.Ahead.{along-begins, along-ends, along-read, here-node, here-framed, here-noded, along-and, along-stopped, along-going}
use Rattle.leaf_pick.proofs.one_walk.walk_once.Goals as goal

pub loop-index-init : goal.loop-index-init
loop-index-init c =
    rw c.into_iter-index-iterator.ensures.into_iter_gives (along-begins c.requires c.of-index-items.ensures)

pub overflow_add-walk : goal.overflow_add-walk
overflow_add-walk c =
    omega (arith, c.well_formed, along-read c.loop-index.invariant c.in-Some.ensures.steps)

pub start-at-requires : goal.start-at-requires
start-at-requires c =
    here-node c.loop-index.invariant c.in-Some.ensures.steps c.requires

pub node_at-node-requires : goal.node_at-node-requires
node_at-node-requires c =
    framed-tree (here-framed c.loop-index.invariant c.in-Some.ensures.steps c.requires c.start-at.ensures)

pub loop-index-preserved-in-And : goal.loop-index-preserved-in-And
loop-index-preserved-in-And c =
    along-and c.loop-index.invariant c.in-Some.ensures.steps c.start-at.ensures c.node_at-node.ensures c.in-And.is

pub read_leaf-requires : goal.read_leaf-requires
read_leaf-requires c =
    let inv = c.loop-index.invariant in
    let steps = c.in-Some.ensures.steps in
    record {
      framed = here-framed inv steps c.requires c.start-at.ensures;
      noded = here-noded inv steps c.requires c.start-at.ensures;
      is = c.node_at-node.ensures;
    }

pub returns-in-Break : goal.returns-in-Break
returns-in-Break c =
    along-stopped c.loop-index.invariant c.in-Some.ensures.steps c.start-at.ensures c.node_at-node.ensures c.in_default.not-And
    c.in-Break.ensures

pub overflow_add-position : goal.overflow_add-position
overflow_add-position c =
    let inv = c.loop-index.invariant in
    omega (arith, c.well_formed, inv.fewer, along-read inv c.in-Some.ensures.steps)

pub loop-index-preserved : goal.loop-index-preserved
loop-index-preserved c =
    along-going c.loop-index.invariant c.in-Some.ensures.steps c.start-at.ensures c.node_at-node.ensures c.in_default.not-And
    c.in-Continue.ensures

pub returns : goal.returns
returns c =
    along-ends c.loop-index.invariant c.in-None.ensures.steps.0
