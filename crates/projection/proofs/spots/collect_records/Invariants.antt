-- `collect_records`: the child indexes of the records passed are in the row.
use Rattle.projection.proofs.RecordLoop.{Filling}
use Rattle.projection.proofs.spots.collect_records.Given as goal

abbrev pub invariant-loop-k : goal.invariant-loop-k
invariant-loop-k l =
    let records = l.fn.records in
    Filling records.src.now records.rec records.count l.i l.initial.row l.row l.k
