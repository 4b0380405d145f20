-- `serve`: a state that is held has a frame that is due, or none.
use Rattle.std.proofs.lemmas.Result.{err_from_is_err_and}
use Rattle.queues.proofs.Serving.{serve-unheld, serve-nothing, holds_frame, serve-one}
use Rattle.queues.proofs.serve.serve.Goals as goal

pub returns-in_err-good_queues : goal.returns-in_err-good_queues
returns-in_err-good_queues c =
    let p = err_from_is_err_and c.from_residual.result c.from_residual.ensures.1 in
    rw (p.1, p.2, c.in_err-good_queues.ensures.0) (serve-unheld c.args.queues.now c.args.out.now c.in_err-good_queues.ensures.1)

pub serve_from-requires : goal.serve_from-requires
serve_from-requires c =
    holds_frame c.args.queues.now c.args.out.now c.in_ok-good_queues.ensures c.in-Some.queue c.in-Some.ensures

pub returns-in-None : goal.returns-in-None
returns-in-None c = serve-nothing c.args.queues.now c.args.out.now c.in_ok-good_queues.ensures c.in-None.ensures

pub returns-in-Some : goal.returns-in-Some
returns-in-Some c =
    serve-one c.args.queues.now c.args.out.now c.in_ok-good_queues.ensures c.in-Some.queue c.in-Some.ensures
    _ _ c.serve_from.result c.serve_from.ensures
