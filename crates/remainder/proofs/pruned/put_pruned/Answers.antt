-- `put_pruned`: the expression ends where it was found to; cut there, it stands up to the end.
use native.Mathlib.Omega.{arith}
use mathlib.Core.Path.{sym}
use lib.Seq.{length-take-le}
use Rattle.expression.proofs.Placed.{fits}
use Rattle.remainder.proofs.pruned.PrunedLaws.{cut-prunable, cut-ends}
use Rattle.remainder.proofs.pruned.put_pruned.Goals as goal

pub end_node-end-requires : goal.end_node-end-requires
end_node-end-requires c =
    (_, c.requires.tree, c.requires.frame.tree)

pub slice_bounds-put_pruned_to_end-end : goal.slice_bounds-put_pruned_to_end-end
slice_bounds-put_pruned_to_end-end c =
    let p = c.requires in
    let is = c.end_node-end.ensures _ p.tree p.frame.tree in
    sym (length-take-le _ _ (omega (arith, is, fits p.frame.tree.bytes)))

pub put_pruned_to_end-requires : goal.put_pruned_to_end-requires
put_pruned_to_end-requires c =
    let p = c.requires in
    let is = c.end_node-end.ensures _ p.tree p.frame.tree in
    record {
      records = p.records;
      tree = p.tree;
      frame = cut-prunable p.frame is;
      ends = cut-ends p.frame is;
      room = p.room;
    }

pub returns : goal.returns
returns c =
    λ records e frame.
    let is = c.end_node-end.ensures _ e frame.tree in
    c.put_pruned_to_end.ensures records e (cut-prunable frame is) (cut-ends frame is)
