-- `marked_keys`: the keys of the marked ones among the records passed are in the row, and their last bytes have flags.
use lib.ListN.{length}
use Rattle.remainder.specs.Keys.{Ended}
use Rattle.remainder.proofs.KeyLaws.{Filled}
use Rattle.remainder.proofs.record_keys.marked_keys.Given as goal

abbrev pub invariant-loop-i : goal.invariant-loop-i
invariant-loop-i l =
    let records = l.fn.marked.records in
    record {
      filled : Filled records.src.now records.rec records.count l.fn.marked.used.now l.keys l.n l.i (length l.initial.keys);
      ended : Ended l.keys l.n l.ends;
    }
