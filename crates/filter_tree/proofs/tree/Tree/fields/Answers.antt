-- `fields`: the fields among the records of the node are its expression's.
use native.Mathlib.Omega.{arith}
use Rattle.filter_tree.proofs.Scans.{noded-within}
use Rattle.filter_tree.proofs.Fields.{noded-fields}
use Rattle.filter_tree.proofs.tree.Tree.fields.Goals as goal

pub offset_bounds-self-i : goal.offset_bounds-self-i
offset_bounds-self-i c = omega (arith, noded-within c.requires.2, c.well_formed)

pub bounds-self-i : goal.bounds-self-i
bounds-self-i c = noded-within c.requires.2

pub returns : goal.returns
returns c = λ d at t stands h. noded-fields stands h
