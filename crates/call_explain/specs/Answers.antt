-- Which definition the answer is.
use Rattle.std.specs.Prelude.{ℕ, ◌+◌, ◌*◌, ◌≡◌, List, Result, Ok, Err}
use Rattle.definitions.specs.Words.Basics.{ok, refused}
use Rattle.definitions.specs.Filter.Verdicts.{bill_number}
use Rattle.definitions.specs.Calls.Explain.{ExplainOutcome}
use Rattle.terms.specs.Refusals.{number_of}
use Rattle.terms.specs.declared.refusals.Refusal.{Refusal}
use Rattle.leaf_verdicts.specs.Taken.{taken_of}
use Rattle.call_explain.specs.declared.call.Explained.{Explained}

-- The answer as a number: line and position of the taken leaf, then the number of verdicts.
abbrev pub explained_number : Explained → ℕ
explained_number e = bill_number (taken_of e.taken) * 65536 + e.count

-- The call is the definition's: answer and buffer.
abbrev pub ExplainedIs : ExplainOutcome → (after : List ℕ) → Result Explained Refusal → Type 0
ExplainedIs o after (Ok e) = o ≡ record { answer = ok (explained_number e); buffer = after }
ExplainedIs o after (Err why) = o ≡ record { answer = refused (number_of why); buffer = after }
