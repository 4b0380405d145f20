-- `put_call_number`: the put's answer as one number.
use Rattle.host_calls.proofs.Numbers.{given_back}
use Rattle.host_calls.proofs.QueueHosting.{put-short, put-hosted}
use Rattle.host_calls.proofs.put.put_call_number.Goals as goal

pub answer_number-requires : goal.answer_number-requires
answer_number-requires c = put-short _ _ _ _ c.put.result c.put.ensures

pub returns : goal.returns
returns c = put-hosted _ _ _ _ c.put.result c.put.ensures _ (given_back _ _ c.answer_number.type_inv c.answer_number.ensures)
