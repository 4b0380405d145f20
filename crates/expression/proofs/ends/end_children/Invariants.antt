-- `end_children`: a turn passes one node; its children are then the first of those that are left, which end where all do.
use Prim.Native.Nat.{◌+◌, ◌-◌}
use lib.ListN.{length}
use Rattle.definitions.specs.Bytes.Encode.{exprs_bytes}
use Rattle.expression.specs.Nodes.{Trees}
use Rattle.expression.proofs.EndWalk.{Ending}
use Rattle.expression.proofs.ends.end_children.Given as goal

abbrev pub invariant-loop-left : goal.invariant-loop-left
invariant-loop-left l =
    (p : Trees l.s l.at l.n) → Ending p.0 l.s (l.at + length (exprs_bytes p.1)) l.next l.left

abbrev pub decreases-loop-left : goal.decreases-loop-left
decreases-loop-left l =
    length l.s - l.next
