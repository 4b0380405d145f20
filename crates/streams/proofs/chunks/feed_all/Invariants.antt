-- `feed_all`: what a turn takes follows what was handed over; it takes at least one character, since there is room for what a line gives.
use Prim.Native.Nat.{◌≤◌}
use lib.ListN.{length}
use Rattle.lines.specs.Sessions.{most_filled}
use Rattle.streams.proofs.Handing.{HandedFront}
use Rattle.streams.proofs.chunks.feed_all.Given as goal

abbrev pub invariant-loop-rest : goal.invariant-loop-rest
invariant-loop-rest l =
    (l.current.filled ≤ most_filled) × (l.current.filled ≤ length l.buffers.out)
    × HandedFront l.characters l.rest l.initial.buffers l.initial.current l.buffers l.current

abbrev pub decreases-loop-rest : goal.decreases-loop-rest
decreases-loop-rest l = length l.rest
