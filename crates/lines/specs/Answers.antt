-- What the answer to a line is in the definitions' terms.
use Rattle.std.specs.Prelude.{ℕ, ◌≤◌, ◌≡◌, List, [], ◌∷◌, length, take, Result as Either, Ok, Err}
use Rattle.definitions.specs.Words.Basics.{Result, ok, refused}
use Rattle.definitions.specs.Lists.Program.{Kept, LineOutcome}
use Rattle.terms.specs.Refusals.{number_of}
use Rattle.terms.specs.declared.refusals.Refusal.{Refusal}
use Rattle.lines.specs.declared.answers.LineGiven.{LineGiven}
use Rattle.lines.specs.declared.answers.LineGiven.TheVariants.{Plan, Logical}

-- What a line gives, or why it is refused.
abbrev pub LineAnswered : Type 0
LineAnswered = Either LineGiven Refusal

-- The bytes that a line gives, with the plan buffer as it is afterwards; else the refusal's number.
abbrev pub answer_bytes : (plan : List ℕ) → LineAnswered → Result (List ℕ)
answer_bytes plan (Ok (Plan n)) = ok (take n plan)
answer_bytes plan (Ok (Logical high low names side)) = ok (high ∷ low ∷ names ∷ side ∷ [])
answer_bytes plan (Err why) = refused (number_of why)

-- How much of the plan buffer is answered.
abbrev pub plan_length : LineAnswered → ℕ
plan_length (Ok (Plan n)) = n
plan_length (Ok (Logical high low names side)) = 0
plan_length (Err why) = 0

-- The plan's length after an answer: that of a new plan, else the old one's.
abbrev pub length_after : (n : ℕ) → LineAnswered → ℕ
length_after n (Ok (Plan m)) = m
length_after n (Ok (Logical high low names side)) = n
length_after n (Err why) = n

-- n and the plan buffer as what is kept.
abbrev pub kept_as : (n : ℕ) (plan : List ℕ) → Kept
kept_as n plan = record { n = n; buffer = plan }

-- The answer and the plan afterwards are what a line gives.
pub record AnswerIs (o : LineOutcome) (n : ℕ) (plan : List ℕ) (r : LineAnswered) : Type 0 where
  pub answer : answer_bytes plan r ≡ o.answer
  pub kept : kept_as (length_after n r) plan ≡ o.kept
  pub fits : plan_length r ≤ length plan
