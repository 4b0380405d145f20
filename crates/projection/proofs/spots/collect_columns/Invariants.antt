-- `collect_columns`: a turn passes one node; a column is put into the row, of any other node the children are then the first that are left.
use Prim.Native.Nat.{◌-◌}
use lib.ListN.{length}
use Rattle.terms.specs.Sides.{join_side}
use Rattle.projection.specs.Spots.{column_spots}
use Rattle.projection.specs.Rows.{ColumnsFit}
use Rattle.projection.proofs.SpotWalk.{Collecting, stop}
use Rattle.projection.proofs.spots.collect_columns.Given as goal

abbrev pub invariant-loop-left : goal.invariant-loop-left
invariant-loop-left l =
    let side = join_side l.side in
    (p : ColumnsFit l.src l.at side l.i l.initial.row)
    → Collecting l.src side l.i (stop p) (column_spots side l.at p.tree) l.initial.row l.end l.left l.index l.row

abbrev pub decreases-loop-left : goal.decreases-loop-left
decreases-loop-left l =
    length l.src - l.end
