-- Right because the And's record is stored first, and each frame's records are put, moved, where those before them end.
use native.Mathlib.Omega.{arith}
use mathlib.Core.List.{map}
use lib.ListN.{length, length-map}
use Prim.Native.Nat.{◌-◌}
use Rattle.call_merge.specs.MergedNodes.{moved}
use Rattle.call_merge.proofs.JoinLaws.{parts-put}
use Rattle.call_merge.proofs.merged_nodes.put_joined.Goals as goal

pub returns : goal.returns
returns c =
    let a = c.args in
    parts-put _ (map (moved (a.new.root - 1)) a.rows.old.now) (map (moved (a.n - 1)) a.rows.new.now) a.row.now c.put_moved.new.row
    c.put_moved-2.new.row (length a.rows.old.now) (length a.rows.new.now)
    (omega (arith, length-map a.rows.old.now (moved (a.new.root - 1)))) (omega (arith, length-map a.rows.new.now (moved (a.n - 1))))
    (omega (arith, c.requires.all)) c.put_moved.ensures c.put_moved-2.ensures
