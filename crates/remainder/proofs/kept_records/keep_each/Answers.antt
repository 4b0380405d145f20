-- `keep_each`: those that stay of the first j records are written, and the first j columns have their new indexes.
use native.Mathlib.Omega.{arith}
use Rattle.remainder.proofs.RecordLaws.{keeping_none, next_fits, keeping-more, keeping_all}
use Rattle.remainder.proofs.kept_records.keep_each.Goals as goal

pub loop-j-init : goal.loop-j-init
loop-j-init c =
    keeping_none c.args.to.now

pub keep_record-kept-requires : goal.keep_record-kept-requires
keep_record-kept-requires c =
    next_fits c.loop-j.invariant c.loop-j-test.true c.requires.all_fit

pub loop-j-preserved : goal.loop-j-preserved
loop-j-preserved c =
    let call = c.keep_record-kept in
    keeping-more c.loop-j.invariant c.loop-j-test.true c.requires.all_fit call.new.out call.auto.out (omega arith)
    call.result call.ensures

pub returns : goal.returns
returns c =
    keeping_all c.loop-j.invariant (omega arith)
