-- The answer of a call as that of its line.
use Rattle.std.specs.Prelude.{Ok, Err}
use Rattle.call_answers.specs.Outcomes.{Answered as CallAnswered}
use Rattle.lines.specs.Answers.{LineAnswered}
use Rattle.lines.specs.declared.answers.LineGiven.TheVariants.{Plan}

-- A length is that of the new plan.
abbrev pub line_answer : CallAnswered → LineAnswered
line_answer (Ok n) = Ok (Plan n)
line_answer (Err why) = Err why
