-- `parent_of`: the first that ends no sooner, going back, is the And above; where there is none, the leaf is the root.
use native.Mathlib.Omega.{arith}
use Prim.Native.Nat.{◌-◌}
use Rattle.filter_tree.proofs.Parents.{leaf-within, is-above, is-root}
use Rattle.filter_tree.proofs.tree.Tree.parent_of.Goals as goal

pub offset_bounds-self-leaf : goal.offset_bounds-self-leaf
offset_bounds-self-leaf c =
    let pre = c.requires in omega (arith, leaf-within pre.5 pre.4, c.well_formed)

pub bounds-self-leaf : goal.bounds-self-leaf
bounds-self-leaf c =
    let pre = c.requires in leaf-within pre.5 pre.4

pub offset_bounds-self-k : goal.offset_bounds-self-k
offset_bounds-self-k c =
    let pre = c.requires in omega (arith, leaf-within pre.5 pre.4, c.loop-k.invariant.0, c.well_formed)

pub bounds-self-k : goal.bounds-self-k
bounds-self-k c =
    let pre = c.requires in omega (arith, leaf-within pre.5 pre.4, c.loop-k.invariant.0)

pub returns-then-end-self : goal.returns-then-end-self
returns-then-end-self c =
    is-above (c.loop-k.k - 1) (omega (arith, c.loop-k.invariant.0)) c.if-end-self.true
    (λ m low high. c.loop-k.invariant.1 m (omega (arith, low)) high)

pub returns : goal.returns
returns c =
    is-root (λ m low high. c.loop-k.invariant.1 m (omega arith) high)
