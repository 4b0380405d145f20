-- `collect_held`: the columns outside the leaf are those of what is left, and before the loop no flag was set.
use lib.ListN.{length}
use Rattle.definitions.specs.Bytes.Decode.{index_below}
use Rattle.filter_tree.specs.Columns.{columns_left}
use Rattle.remainder.specs.Around.{OfLeft}
use Rattle.remainder.proofs.LeftCopies.{Marking}
use Rattle.remainder.proofs.remainder.collect_held.Given as goal

abbrev pub invariant-loop-place : goal.invariant-loop-place
invariant-loop-place l =
    OfLeft (index_below (length l.initial.used)) l.tree.bytes.now l.tree.nodes.now l.cut
    (Marking l.tree.bytes.now l.cut (length l.initial.used) l.initial.used (columns_left l.place-iterator) l.used)
