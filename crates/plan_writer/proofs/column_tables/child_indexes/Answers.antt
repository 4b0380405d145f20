-- `child_indexes`: the entries before j are the numbers that stand in the records before j.
use native.Mathlib.Omega.{arith}
use lib.ListN.{length-take}
use Rattle.std.proofs.lemmas.Grind.{common_steps}
use Rattle.plan_writer.proofs.TableLaws.{child-table}
use Rattle.plan_writer.proofs.column_tables.child_indexes.Goals as goal

pub child-requires : goal.child-requires
child-requires c =
    omega (arith, length-take c.args.records.count c.args.to.now)

pub returns-clause-child_table : goal.returns-clause-child_table
returns-clause-child_table c =
    child-table c.args.records.count (record { entry = λ k b. grind (arith, common_steps, c.loop-j.invariant k) })
