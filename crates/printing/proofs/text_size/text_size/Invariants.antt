-- `text_size`: a turn passes one node; its own characters and those of what is left are those of the whole.
use Prim.Native.Nat.{◌-◌}
use lib.ListN.{length}
use Rattle.printing.proofs.Sizing.{Sizing}
use Rattle.printing.proofs.text_size.text_size.Given as goal

abbrev pub invariant-loop-next : goal.invariant-loop-next
invariant-loop-next l =
    Sizing l.src l.at l.next l.size

abbrev pub decreases-loop-next : goal.decreases-loop-next
decreases-loop-next l =
    length l.src - l.next
