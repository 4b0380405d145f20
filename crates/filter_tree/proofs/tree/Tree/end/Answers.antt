-- The record of its index is the node's.
use native.Mathlib.Omega.{arith}
use Rattle.filter_tree.proofs.Scans.{noded-within, noded-end}
use Rattle.filter_tree.proofs.tree.Tree.end.Goals as goal

pub offset_bounds-self-i : goal.offset_bounds-self-i
offset_bounds-self-i c =
    omega (arith, noded-within c.requires.2, c.well_formed)

pub bounds-self-i : goal.bounds-self-i
bounds-self-i c =
    noded-within c.requires.2

pub returns : goal.returns
returns c =
    λ at t h. omega (arith, c.from.ensures, noded-end h)
