-- `minus_number`: 0 less the number is minus the number.
use native.Mathlib.Omega.{arith}
use mir.Facts.{to_z-of_z}
use Rattle.host_calls.proofs.Numbers.{minus_is, minus-fits}
use Rattle.host_calls.proofs.answers.minus_number.Goals as goal

pub overflow_sub-result : goal.overflow_sub-result
overflow_sub-result c =
    let n = c.args.n in
    rw (minus_is n (omega (arith, c.requires))) (minus-fits n (omega (arith, c.requires)))

pub returns : goal.returns
returns c =
    let n = c.args.n in
    rw (minus_is n (omega (arith, c.requires))) (to_z-of_z (minus-fits n (omega (arith, c.requires))))
