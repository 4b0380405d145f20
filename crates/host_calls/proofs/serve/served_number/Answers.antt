-- `served_number`: each answer by itself.
use Rattle.std.proofs.Common.{◌≡◌, ◌∙◌, ap, Ok, Some, None}
use Rattle.host_calls.specs.Hosts.{hosted_serve}
use Rattle.host_calls.proofs.Numbers.{given_back}
use Rattle.host_calls.proofs.serve.served_number.Goals as goal

pub returns-in-Ok-Some : goal.returns-in-Ok-Some
unfolding hosted_serve
returns-in-Ok-Some c =
    let s = c.in-Ok-Some in
    let e : c.args.answer ≡ Ok (Some (s.queue, s.n)) = s.is ∙ ap (λ r. Ok r) (rw s.is at s.field-0-is) in
    rw (e, ← c.from.ensures, ← c.from-number.ensures) (given_back _ _ c.length_number.type_inv c.length_number.ensures)

pub returns-in-Ok-None : goal.returns-in-Ok-None
unfolding hosted_serve
returns-in-Ok-None c =
    let s = c.in-Ok-None in
    let e : c.args.answer ≡ Ok None = s.is ∙ ap (λ r. Ok r) (rw s.is at s.field-0-is) in
    rw e (given_back _ _ c.length_number-in-Ok-None.type_inv c.length_number-in-Ok-None.ensures)

pub returns-in-Err : goal.returns-in-Err
unfolding hosted_serve
returns-in-Err c = rw c.in-Err.is (given_back _ _ c.minus_refusal.type_inv c.minus_refusal.ensures)
