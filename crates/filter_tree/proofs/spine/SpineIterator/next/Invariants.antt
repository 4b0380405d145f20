-- `next`: what is passed is below a leaf.
use Prim.Native.Nat.{◌-◌}
use mathlib.Core.Path.{◌≡◌}
use lib.ListN.{length}
use Rattle.filter_tree.specs.Spines.{spine_left}
use Rattle.filter_tree.proofs.spine.SpineIterator.next.Given as goal

abbrev pub invariant-loop-self : goal.invariant-loop-self
invariant-loop-self l =
    spine_left l.self ≡ spine_left l.initial.self

abbrev pub decreases-loop-self : goal.decreases-loop-self
decreases-loop-self l =
    length l.self.nodes.now - l.self.next
