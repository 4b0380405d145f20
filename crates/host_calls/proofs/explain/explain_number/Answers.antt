-- `explain_number`: the answer as one number, or minus the refusal's.
use Prim.Native.Nat.{◌<◌}
use native.Mathlib.Omega.{arith}
use Rattle.std.proofs.Common.{rules}
use Rattle.node_reader.proofs.Standing.{all-bytes}
use Rattle.host_calls.specs.Hosts.{hosted}
use Rattle.terms.specs.Settings.{settings_of}
use Rattle.call_explain.specs.Answers.{explained_number}
use Rattle.host_calls.proofs.Numbers.{number-is, given_back}
use Rattle.host_calls.proofs.explain.ExplainSmall.{explain-small, explain-hosted}
use Rattle.host_calls.proofs.explain.explain_number.Goals as goal
use Rattle.host_calls.proofs.explain.explain_number.Goals.{In-Ok}

-- The number is small.
small : (c : In-Ok) → explained_number c.in-Ok.explained < 1099511627776
small c =
    explain-small (settings_of c.args.settings) (omega (arith, c.well_formed)) c.args.frame.now c.args.verdicts.now c.explain.new.out
    (explained_number c.in-Ok.explained) c.in-Ok.ensures (search (rules, all-bytes))

pub bill_number-requires : goal.bill_number-requires
bill_number-requires c = omega (arith, small (goal.at.bill_number-requires c).In-Ok)

pub overflow_mul-result : goal.overflow_mul-result
overflow_mul-result c = omega (arith, c.bill_number.ensures, small (goal.at.overflow_mul-result c).In-Ok)

pub overflow_add-result : goal.overflow_add-result
overflow_add-result c = omega (arith, c.bill_number.ensures, small (goal.at.overflow_add-result c).In-Ok)

pub overflow_cast-result : goal.overflow_cast-result
overflow_cast-result c = omega (arith, c.bill_number.ensures, small (goal.at.overflow_cast-result c).In-Ok)

pub returns-in-Ok : goal.returns-in-Ok
unfolding hosted
returns-in-Ok c =
    explain-hosted _ c.args.frame.now c.args.verdicts.now c.explain.new.out _ c.in-Ok.ensures (search (rules, all-bytes)) _
    (rw c.bill_number.ensures (number-is _ (omega (arith, small (goal.at.returns-in-Ok c).In-Ok))))

pub returns-in-Err : goal.returns-in-Err
unfolding hosted
returns-in-Err c =
    explain-hosted _ c.args.frame.now c.args.verdicts.now c.explain.new.out _ c.in-Err.ensures (search (rules, all-bytes)) _
    (given_back _ _ c.minus_refusal.type_inv c.minus_refusal.ensures)
