-- The predicate by the table of child indexes, and the remainder into the part where it ended.
use Prim.Native.Nat.{◌≤◌}
use native.Mathlib.Omega.{arith}
use lib.ListN.{length}
use Rattle.plan_writer.proofs.TableLaws.{records-within}
use Rattle.call_extract.proofs.extraction.Taking.{predicate-fits, predicate-ends, remainder-fits, extraction-is, extraction-ends}
use Rattle.call_extract.proofs.extraction.put_extraction.Goals as goal
use Rattle.call_extract.proofs.extraction.put_extraction.Goals.{After-child_indexes}

-- What is known of the table, and of the predicate that was written by it.
wide : (c : After-child_indexes) → 256 ≤ length c.child_indexes.new.to
wide c = omega (arith, c.child_indexes.auto.to)

pub invariant_of-records : goal.invariant_of-records
invariant_of-records c =
    record { within = records-within c.requires.extraction_fits.taking.entries }

pub put_predicate-w-requires : goal.put_predicate-w-requires
put_predicate-w-requires c =
    predicate-fits c.requires.extraction_fits c.child_indexes.new.to (wide (goal.at.put_predicate-w-requires c).After-child_indexes)
    c.child_indexes.ensures.child_table

pub slice_bounds-put_remainder-count : goal.slice_bounds-put_remainder-count
slice_bounds-put_remainder-count c =
    let put = c.put_predicate-w in
    predicate-ends c.requires.extraction_fits c.child_indexes.new.to (wide (goal.at.slice_bounds-put_remainder-count c).After-child_indexes)
    c.child_indexes.ensures.child_table
    put.new.out put.result put.auto.out put.ensures

pub slice_bounds-put_remainder-start : goal.slice_bounds-put_remainder-start
slice_bounds-put_remainder-start c =
    omega (
      arith,
      (let put = c.put_predicate-w in
          predicate-ends c.requires.extraction_fits c.child_indexes.new.to
          (wide (goal.at.slice_bounds-put_remainder-start c).After-child_indexes)
          c.child_indexes.ensures.child_table
          put.new.out put.result put.auto.out put.ensures),
    )

pub put_remainder-requires-clause-remainder_fits : goal.put_remainder-requires-clause-remainder_fits
put_remainder-requires-clause-remainder_fits c =
    let put = c.put_predicate-w in
    remainder-fits c.requires.extraction_fits c.child_indexes.new.to
    (wide (goal.at.put_remainder-requires-clause-remainder_fits c).After-child_indexes)
    c.child_indexes.ensures.child_table
    put.new.out put.result put.auto.out put.ensures

pub overflow_add-result : goal.overflow_add-result
overflow_add-result c =
    omega (
      arith,
      c.well_formed,
      extraction-ends ((let rest = c.put_remainder in
          let put = c.put_predicate-w in
          extraction-is c.child_indexes.new.to
          (wide (goal.at.overflow_add-result c).After-child_indexes) c.child_indexes.ensures.child_table
          c.args.out.now put.new.out rest.new.out put.result rest.result put.ensures rest.ensures)) c.requires.extraction_fits,
    )

pub returns : goal.returns
returns c =
    let rest = c.put_remainder in
    let put = c.put_predicate-w in
    extraction-is c.child_indexes.new.to (wide (goal.at.returns c).After-child_indexes) c.child_indexes.ensures.child_table
    c.args.out.now put.new.out rest.new.out put.result rest.result put.ensures rest.ensures
