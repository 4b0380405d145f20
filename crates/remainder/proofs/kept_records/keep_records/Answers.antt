-- `keep_records`: the row of keys, cut to as many as there are.
use Rattle.remainder.proofs.KeyLaws.{keys-alone, ends-alone}
use Rattle.remainder.proofs.kept_records.keep_records.Goals as goal

pub invariant_of-keyed : goal.invariant_of-keyed
invariant_of-keyed c =
    let n = c.marked_keys-n.ensures in
    record { row = ∣ keys-alone n.row ∣₁; ended = ends-alone n.ended n.row.room }
