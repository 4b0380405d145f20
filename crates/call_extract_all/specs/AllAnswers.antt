-- Which definition the answer is.
use Rattle.std.specs.Prelude.{◌≡◌, List, ℕ, Result, Ok, Err}
use Rattle.definitions.specs.Words.Basics.{ok, refused}
use Rattle.definitions.specs.Calls.ExtractAll.{AllOutcome}
use Rattle.terms.specs.Refusals.{number_of}
use Rattle.terms.specs.declared.refusals.Refusal.{Refusal}
use Rattle.call_extract_all.specs.declared.conjuncts.Taken.{Taken}

-- The call is the definition's: answer, rounds and buffer.
abbrev pub AllOutcomeIs : AllOutcome → (after : List ℕ) → Result Taken Refusal → Type 0
AllOutcomeIs o after (Ok r) = o ≡ record { answer = ok r.length; rounds = r.rounds; buffer = after }
AllOutcomeIs o after (Err why) = o ≡ record { answer = refused (number_of why); rounds = 0; buffer = after }
