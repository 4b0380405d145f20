-- `length_number`: so small a number is the same with a sign.
use native.Mathlib.Omega.{arith}
use Rattle.host_calls.proofs.Numbers.{number-is}
use Rattle.host_calls.proofs.answers.length_number.Goals as goal

pub returns : goal.returns
returns c =
    number-is c.args.n (omega (arith, c.requires))
