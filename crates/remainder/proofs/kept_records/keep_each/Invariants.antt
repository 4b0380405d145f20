-- `keep_each`: those that stay of the first j records are written, and the first j columns have their new indexes.
use lib.ListN.{length}
use Rattle.remainder.proofs.RecordLaws.{Keeping}
use Rattle.remainder.proofs.kept_records.keep_each.Given as goal

abbrev pub invariant-loop-j : goal.invariant-loop-j
invariant-loop-j l =
    let records = l.fn.keyed.marked.records in
    Keeping records.src.now records.rec records.count l.fn.keyed.marked.used.now l.initial.out (length l.initial.to) l.out l.to l.kept l.j
