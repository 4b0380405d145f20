-- `collect_column_references`: a turn passes one node; a column's flag is set.
use Prim.Native.Nat.{◌-◌}
use lib.ListN.{length}
use Rattle.definitions.specs.Words.References.{columns_of}
use Rattle.remainder.specs.References.{marked, Flagged}
use Rattle.remainder.proofs.ReferenceLaws.{Collecting}
use Rattle.remainder.proofs.references.collect_column_references.Given as goal

abbrev pub invariant-loop-next : goal.invariant-loop-next
invariant-loop-next l =
    (p : Flagged l.src l.at l.end l.initial.used)
    → Collecting l.src l.end (length l.initial.used) (marked (columns_of p.0) l.initial.used) l.next l.used

abbrev pub decreases-loop-next : goal.decreases-loop-next
decreases-loop-next l =
    l.end - l.next
