-- `logical_line`: mask, high byte first, count and side are the answer's bytes.
use native.Mathlib.Omega.{arith}
use Rattle.std.proofs.lemmas.Result.{err_from_is_err_and}
use Rattle.lines.proofs.CallLaws.{few-names, names-give, refusal-gives}
use Rattle.lines.proofs.calls.logical_line.Goals as goal

pub returns-in_err-names : goal.returns-in_err-names
returns-in_err-names c =
    let p = err_from_is_err_and c.from_residual.result c.from_residual.ensures.1 in
    rw (p.1, p.2) (refusal-gives _ _ c.in_err-names.ensures)

pub overflow_cast-result : goal.overflow_cast-result
overflow_cast-result c = omega (arith, few-names _ c.in_ok-names.ensures)

pub returns : goal.returns
returns c = λ n plan. rw (c.to_be_bytes.ensures, c.from-side.ensures) (names-give _ c.in_ok-names.ensures n plan)
