-- A put or serve that met its contract gives the definition's answer, with a short length, and that, as one number, is the host's.
use Rattle.std.specs.Prelude.{Some, None, Ok, Err}
use Prim.Native.Nat.{ℕ}
use native.Mathlib.Omega.{arith}
use mathlib.Core.Path.{◌≡◌, refl, ap}
use mathlib.Core.List.{List}
use lib.IntN.{ℤ}
use Rattle.definitions.specs.Calls.QueueBytes.{PutOutcome, put, ServeOutcome, serve}
use Rattle.host_calls.specs.Hosts.{hosted, hosted_serve}
use Rattle.theorems.proofs.Proved.{queue-lengths}
use Rattle.call_answers.specs.Outcomes.{Answered, answer_of}
use Rattle.queues.specs.Outcomes.{queue_is, ServeAnswered, serve_answer_of, PutIs, ServeIs}
use Rattle.host_calls.specs.Short.{ShortLength, ServeShort}
use Rattle.host_calls.specs.Hosted.{PutHosted, ServeHosted}

module _ (b : List ℕ) (number : ℕ) (f after : List ℕ) (r : Answered) (is : PutIs (put b number f) after r) where
  pub put-short : ShortLength r
  put-short = short r is where
    short : (r : Answered) → PutIs (put b number f) after r → ShortLength r
    short (Ok n) is = omega (arith, (queue-lengths.0 b number f n (ap (λ (o : PutOutcome). o.answer) is)).1)
    short (Err why) is = tt

  pub put-hosted : (z : ℤ) → z ≡ hosted (answer_of r) → PutHosted (put b number f) after z
  put-hosted z e = rw (e, is) (refl, refl)

module _ (b out after out_after : List ℕ) (r : ServeAnswered) (is : ServeIs (serve b out) after out_after r) where
  pub serve-short : ServeShort r
  serve-short = short r is where
    short : (r : ServeAnswered) → ServeIs (serve b out) after out_after r → ServeShort r
    short (Ok (Some frame)) is = (queue-lengths.1 b out (queue_is frame.0) frame.1 (ap (λ (o : ServeOutcome). o.answer) is)).1
    short (Ok None) is = tt
    short (Err why) is = tt

  pub serve-hosted : (z : ℤ) → z ≡ hosted_serve (serve_answer_of r) → ServeHosted (serve b out) after out_after z
  serve-hosted z e = rw (e, is) (refl, refl, refl)
