-- `walk_number`: a length with its walk, and minus a refusal's number with its walk.
use Rattle.host_calls.specs.Hosts.{hosted_walk}
use Rattle.host_calls.proofs.Numbers.{given_back}
use Rattle.host_calls.proofs.answers.walk_number.Goals as goal

pub returns-in-Ok : goal.returns-in-Ok
unfolding hosted_walk
returns-in-Ok c = rw c.in-Ok.is (given_back _ _ c.length_number.type_inv c.length_number.ensures)

pub returns-in-Err : goal.returns-in-Err
unfolding hosted_walk
returns-in-Err c =
    rw (c.in-Err.is, ← c.from.ensures, ← c.from-in-Err.ensures) (given_back _ _ c.minus_number.type_inv c.minus_number.ensures)
