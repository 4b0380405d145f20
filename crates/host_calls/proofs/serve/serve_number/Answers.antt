-- `serve_number`: the serve's answer as one number.
use Rattle.host_calls.proofs.Numbers.{given_back}
use Rattle.host_calls.proofs.QueueHosting.{serve-short, serve-hosted}
use Rattle.host_calls.proofs.serve.serve_number.Goals as goal

pub served_number-requires : goal.served_number-requires
served_number-requires c =
    let call = c.serve in serve-short _ _ _ _ call.result call.ensures

pub returns : goal.returns
returns c =
    let call = c.serve in
    serve-hosted _ _ _ _ call.result call.ensures _ (given_back _ _ c.served_number.type_inv c.served_number.ensures)
