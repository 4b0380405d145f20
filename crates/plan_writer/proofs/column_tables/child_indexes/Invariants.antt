-- `child_indexes`: the entries before j are the numbers that stand in the records before j.
use Rattle.std.proofs.Common.{◌≡◌, ℕ, ◌+◌, ◌*◌, ◌<◌, get_or}
use Rattle.expression.specs.Places.{short_at}
use Rattle.plan_writer.proofs.column_tables.child_indexes.Given as goal

abbrev pub invariant-loop-j : goal.invariant-loop-j
invariant-loop-j l =
    let records = l.fn.records in
    (k : ℕ) → k < l.j → get_or l.place-items k 0 ≡ short_at records.src.now (records.rec + 5 * k + 1)
