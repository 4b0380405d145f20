-- `bill_number`: the definition's, in 64 bits since it is of three bytes.
use native.Mathlib.Omega.{arith}
use mathlib.Core.Path.{◌≡◌}
use Prim.Native.Nat.{◌+◌, ◌*◌}
use Rattle.definitions.specs.Filter.Verdicts as definitions
use Rattle.leaf_verdicts.specs.Taken.{taken_of}
use Rattle.host_calls.proofs.explain.bill_number.Goals as goal
use Rattle.host_calls.proofs.explain.bill_number.Goals.{After-from}

-- By the leaf.
given : (c : After-from) → c.from.result * 65536 + c.in-Some.leaf.position ≡ definitions.bill_number (taken_of c.args.taken)
unfolding definitions.bill_number
given c = rw (c.in-Some.is, c.from.ensures)

pub overflow_add-result : goal.overflow_add-result
overflow_add-result c = omega (arith, c.requires, given (goal.at.overflow_add-result c).After-from)

pub returns-in-Some : goal.returns-in-Some
returns-in-Some c = given (goal.at.returns-in-Some c).After-from

pub returns-in-None : goal.returns-in-None
unfolding definitions.bill_number
returns-in-None c = rw c.in-None.is
