-- `put_part`: an And is its right side, then its left side before it, then its head; any other node is an AND-leaf.
-- A call goes to a place further on, so the measure is the bytes left.
use Prim.Native.Nat.{◌-◌}
use lib.ListN.{length}
use Rattle.remainder.proofs.rests.+put_part.Given as goal

abbrev pub decreases-put_part : goal.decreases-put_part
decreases-put_part l =
    length l.tree.bytes.now - l.part.at
