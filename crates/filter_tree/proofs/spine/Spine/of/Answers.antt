-- `of`: what the scan will find are the node's And nodes and AND-leaves.
use native.Mathlib.Omega.{arith}
use Rattle.filter_tree.proofs.Scans.{noded-within}
use Rattle.filter_tree.proofs.Spining.{spine-of}
use Rattle.filter_tree.proofs.spine.Spine.of.Goals as goal

pub offset_bounds-tree-i : goal.offset_bounds-tree-i
offset_bounds-tree-i c =
    omega (arith, noded-within c.requires.2, c.well_formed)

pub bounds-tree-i : goal.bounds-tree-i
bounds-tree-i c =
    noded-within c.requires.2

pub returns : goal.returns
returns c =
    λ d at t stands h. spine-of stands h
