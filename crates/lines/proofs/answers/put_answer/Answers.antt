-- `put_answer`: each answer is a line of one byte and more, `00` and the bytes or the refusal's number alone.
use Rattle.definitions.specs.Lists.Program.{written_line}
use Rattle.std.proofs.Common.{◌≡◌, ◌∙◌, ap, Ok}
use Rattle.lines.specs.declared.answers.LineGiven.TheVariants.{Plan, Logical}
use Rattle.lines.proofs.answers.put_answer.Goals as goal

pub returns-in-Ok-Plan : goal.returns-in-Ok-Plan
unfolding written_line
returns-in-Ok-Plan c =
    let e : c.args.answer ≡ Ok (Plan c.in-Ok-Plan.n) =
    c.in-Ok-Plan.is ∙ ap (λ g. Ok g) (rw c.in-Ok-Plan.is at c.in-Ok-Plan.field-0-is) in
    rw e c.put_line.ensures

pub returns-in-Ok-Logical : goal.returns-in-Ok-Logical
unfolding written_line
returns-in-Ok-Logical c =
    let l = c.in-Ok-Logical in
    let e : c.args.answer ≡ Ok (Logical l.high l.low l.names l.side) = l.is ∙ ap (λ g. Ok g) (rw l.is at l.field-0-is) in
    rw e c.put_line-in-Ok-Logical.ensures

pub returns-in-Err : goal.returns-in-Err
unfolding written_line
returns-in-Err c = rw (c.in-Err.is, ← c.from.ensures) c.put_line-in-Err.ensures
