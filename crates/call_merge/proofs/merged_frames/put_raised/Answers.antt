-- `put_raised`: each index is raised by the table, and the copy by it stands from w on.
use native.Mathlib.Omega.{arith}
use Prim.Native.Nat.{◌≤◌}
use lib.ListN.{length}
use Rattle.call_merge.proofs.merged_frames.RaisedLaws.{raised-fits, raised-put}
use Rattle.call_merge.proofs.merged_frames.put_raised.Goals as goal
use Rattle.call_merge.proofs.merged_frames.put_raised.Goals.{After-raised_indexes}

-- Every column is in the table.
wide : (c : After-raised_indexes) → c.args.given.parts.columns ≤ length c.raised_indexes.new.to
wide c = omega (arith, c.raised_indexes.auto.to, c.requires.columns_bound)

pub reproject_column_references-requires : goal.reproject_column_references-requires
reproject_column_references-requires c =
    raised-fits c.args.by (wide (goal.at.reproject_column_references-requires c).After-raised_indexes)
    c.raised_indexes.ensures.raised_table c.requires.room

pub returns : goal.returns
returns c =
    raised-put c.args.by (wide (goal.at.returns c).After-raised_indexes) c.raised_indexes.ensures.raised_table
    c.reproject_column_references.ensures
