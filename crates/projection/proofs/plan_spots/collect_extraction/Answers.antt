-- `collect_extraction`: the records of a remainder come after the predicate's arguments.
use Prim.Native.Nat.{◌+◌, ◌*◌, ◌≤◌}
use native.Mathlib.Omega.{arith}
use lib.ListN.{length}
use Rattle.projection.specs.Rows.{RecordsFit}
use Rattle.projection.proofs.plan_spots.ExtractionLaws.{arguments-fit, records-fit, collected-nothing, collected-records}
use Rattle.projection.proofs.plan_spots.collect_extraction.Goals as goal
use Rattle.projection.proofs.plan_spots.collect_extraction.Goals.{After-struct_known-1}

-- The records of the remainder have room.
fits : (c : After-struct_known-1)
    → let call = c.collect_arguments-passed in
    (call.result.end + 3 + 5 * c.in-Some.f.columns ≤ length c.args.src.now)
    × RecordsFit (call.result.end + 3) c.in-Some.f.columns call.result.index call.new.row
fits c =
    let call = c.collect_arguments-passed in
    records-fit c.requires _ (rw c.in-Some.is at c.requires.there.read.remainder)
    call.new.row call.auto.row call.result call.ensures

pub collect_arguments-passed-requires : goal.collect_arguments-passed-requires
collect_arguments-passed-requires c =
    arguments-fit c.requires

pub overflow_add-records : goal.overflow_add-records
overflow_add-records c =
    omega (arith, (fits (goal.at.overflow_add-records c).After-struct_known-1).1.short)

pub invariant_of-records : goal.invariant_of-records
invariant_of-records c =
    record { within = (fits (goal.at.invariant_of-records c).After-struct_known-1).0 }

pub collect_records-requires : goal.collect_records-requires
collect_records-requires c =
    (fits (goal.at.collect_records-requires c).After-struct_known-1).1

pub returns-in-None : goal.returns-in-None
returns-in-None c =
    λ X there.
    let call = c.collect_arguments-passed in
    collected-nothing c.args.row.now call.new.row call.result call.ensures X there
    (rw c.in-None.is at there.read.remainder)

pub returns-in-Some : goal.returns-in-Some
returns-in-Some c =
    λ X there.
    let records = c.collect_records in
    let call = c.collect_arguments-passed in
    collected-records c.args.row.now call.new.row call.result call.ensures X there _
    (rw c.in-Some.is at there.read.remainder) records.new.row records.result records.ensures
