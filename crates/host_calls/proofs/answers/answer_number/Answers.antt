-- `answer_number`: each answer by itself.
use Rattle.host_calls.specs.Hosts.{hosted}
use Rattle.host_calls.proofs.Numbers.{given_back}
use Rattle.host_calls.proofs.answers.answer_number.Goals as goal

pub returns-in-Ok : goal.returns-in-Ok
unfolding hosted
returns-in-Ok c = rw c.in-Ok.is (given_back _ _ c.length_number.type_inv c.length_number.ensures)

pub returns-in-Err : goal.returns-in-Err
unfolding hosted
returns-in-Err c = rw c.in-Err.is (given_back _ _ c.minus_refusal.type_inv c.minus_refusal.ensures)
