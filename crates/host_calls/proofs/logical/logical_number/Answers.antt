-- `logical_number`: mask, count and side as one number.
use native.Mathlib.Omega.{arith}
use Rattle.host_calls.specs.Hosts.{hosted_names}
use Rattle.host_calls.proofs.Numbers.{number-is, given_back}
use Rattle.host_calls.proofs.logical.logical_number.Goals as goal

pub returns-in-Err : goal.returns-in-Err
unfolding hosted_names
returns-in-Err c = rw (← c.in-Err.ensures) (given_back _ _ c.minus_refusal.type_inv c.minus_refusal.ensures)

pub returns-in-Ok : goal.returns-in-Ok
unfolding hosted_names
returns-in-Ok c =
    rw (← c.in-Ok.ensures, ← c.from.ensures, ← c.from-side.ensures, ← c.from-mask.ensures, ← c.from-names.ensures)
    (number-is _ (omega arith))
