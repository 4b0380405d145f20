-- One record and then the others: what is right for those left is right for all.
use Prim.Native.Nat.{◌≤◌}
use lib.ListN.{length}
use Rattle.definitions.specs.Bytes.Decode.{one_record}
use Rattle.node_reader.proofs.Repeats.{Left}
use Rattle.frame_reader.proofs.column_records.records.Given as goal

abbrev pub invariant-loop : goal.invariant-loop
invariant-loop l =
    (l.next ≤ length l.s) × Left l.s l.at l.many one_record l.next l.counter
