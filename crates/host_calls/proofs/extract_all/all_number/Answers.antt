-- `all_number`: rounds and length as one number, or minus the refusal's.
use Prim.Native.Nat.{◌≤◌}
use native.Mathlib.Omega.{arith}
use mathlib.Core.Path.{refl}
use Rattle.std.proofs.Common.{rules}
use Rattle.node_reader.proofs.Standing.{all-bytes}
use Rattle.definitions.specs.Words.Basics.{ok}
use Rattle.host_calls.specs.Hosts.{hosted_all}
use Rattle.terms.specs.Settings.{settings_of}
use Rattle.host_calls.proofs.Numbers.{number-is, given_back}
use Rattle.host_calls.proofs.AllSmall.{all_small, all-hosted}
use Rattle.host_calls.proofs.extract_all.all_number.Goals as goal
use Rattle.host_calls.proofs.extract_all.all_number.Goals.{In-Ok}

-- A length and its rounds are small.
small : (c : In-Ok) → (c.in-Ok.taken.length ≤ 16384) × (c.in-Ok.taken.rounds ≤ 1024)
small c =
    all_small (settings_of c.args.settings) (omega (arith, c.well_formed)) c.args.frame.now c.args.out.now c.extract_all.new.out
    c.in-Ok.taken.rounds (ok c.in-Ok.taken.length) c.in-Ok.ensures (search (rules, all-bytes)) _ refl

pub overflow_mul-result : goal.overflow_mul-result
overflow_mul-result c = omega (arith, (small (goal.at.overflow_mul-result c).In-Ok).1)

pub overflow_add-result : goal.overflow_add-result
overflow_add-result c = omega (arith, small (goal.at.overflow_add-result c).In-Ok)

pub overflow_cast-result : goal.overflow_cast-result
overflow_cast-result c = omega (arith, small (goal.at.overflow_cast-result c).In-Ok)

pub returns-in-Ok : goal.returns-in-Ok
unfolding hosted_all
returns-in-Ok c =
    all-hosted (settings_of c.args.settings) (omega (arith, c.well_formed)) c.args.frame.now c.args.out.now c.extract_all.new.out
    c.in-Ok.taken.rounds (ok c.in-Ok.taken.length) c.in-Ok.ensures (search (rules, all-bytes)) _
    (number-is _ (omega (arith, small (goal.at.returns-in-Ok c).In-Ok)))

pub returns-in-Err : goal.returns-in-Err
unfolding hosted_all
returns-in-Err c =
    all-hosted (settings_of c.args.settings) (omega (arith, c.well_formed)) c.args.frame.now c.args.out.now c.extract_all.new.out
    0 _ c.in-Err.ensures (search (rules, all-bytes)) _ (given_back _ _ c.minus_refusal.type_inv c.minus_refusal.ensures)
