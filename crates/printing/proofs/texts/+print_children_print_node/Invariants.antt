-- `print_node` and `print_children`: what a node opens with, its children with what stands before each, and what it closes with; a node
-- walk goes further on, a row walk to a node at its own place.
use Prim.Native.Nat.{◌+◌, ◌-◌, ◌*◌}
use lib.ListN.{length}
use Rattle.printing.proofs.PrintWalk.{Printing}
use Rattle.printing.proofs.texts.+print_children_print_node.Given as goal

abbrev pub invariant-print_children-loop-position : goal.invariant-print_children-loop-position
invariant-print_children-loop-position l =
    Printing l.src l.parent l.at l.n l.w l.initial.out l.read l.wrote l.position l.out

abbrev pub decreases-print_children : goal.decreases-print_children
decreases-print_children l =
    2 * (length l.src.now - l.at) + 1

abbrev pub decreases-print_node : goal.decreases-print_node
decreases-print_node l =
    2 * (length l.src.now - l.at)
