-- `raised_indexes`: the entries before j are their places raised by the count.
use Rattle.std.proofs.Common.{◌≡◌, ℕ, ◌+◌, ◌<◌, get_or}
use Rattle.plan_writer.proofs.column_tables.raised_indexes.Given as goal

abbrev pub invariant-loop-j : goal.invariant-loop-j
invariant-loop-j l =
    (k : ℕ) → k < l.j → get_or l.place-items k 0 ≡ l.by + k
