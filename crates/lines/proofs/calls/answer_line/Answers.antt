-- `answer_line`: what was decoded to the scratch is the line's bytes.
use native.Mathlib.Omega.{arith}
use mathlib.Core.Path.{◌∙◌}
use Rattle.lines.proofs.LineLaws.{refused-line, good-bytes, good-leaves, bad-line, bad-leaves, short-line}
use Rattle.lines.proofs.calls.answer_line.Goals as goal

pub call_line-requires : goal.call_line-requires
call_line-requires c =
    omega (arith, c.decode.auto.out, c.in-Some.ensures.size, short-line c.args.line.now c.in-Some.ensures.bytes)

pub returns-in-Some : goal.returns-in-Some
returns-in-Some c = record {
  answer_is = rw (← good-bytes _ _ c.in-Some.ensures.bytes) c.call_line.ensures.answer_is;
  scratch_after = c.call_line.ensures.scratch_after ∙ good-leaves _ _ _ c.in-Some.ensures.bytes c.in-Some.ensures.wrote;
}

pub returns-in-None : goal.returns-in-None
returns-in-None c = record {
  answer_is = rw (← bad-line _ _ c.in-None.ensures.bytes) (refused-line _ _ _);
  scratch_after = bad-leaves _ _ _ c.in-None.ensures.bytes c.in-None.ensures.wrote;
}
