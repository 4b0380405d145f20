-- Which definition each answer is.
use Rattle.std.specs.Prelude.{ℕ, ◌≡◌, List, Result as Given, Ok, Err}
use Rattle.definitions.specs.Words.Basics.{Result, ok, refused}
use Rattle.definitions.specs.Calls.Base.{Outcome, load}
use Rattle.definitions.specs.Bytes.NodeTable.{NodeRecord}
use Rattle.definitions.specs.Calls.Merge.{MergeOutcome}
use Rattle.definitions.specs.Calls.Print.{print}
use Rattle.terms.specs.Refusals.{number_of}
use Rattle.terms.specs.declared.refusals.Refusal.{Refusal}
use Rattle.call_answers.specs.declared.answers.Extracted.{Extracted}

-- A length, or why the call is refused.
abbrev pub Answered : Type 0
Answered = Given ℕ Refusal

-- The answer of 01 and 02 for each case: a length, or the number of the refusal.
abbrev pub answer_of : Answered → Result ℕ
answer_of (Ok n) = ok n
answer_of (Err why) = refused (number_of why)

-- The host's n after a call: the new plan's length, or as it was.
abbrev pub n_after : (n : ℕ) → Answered → ℕ
n_after n (Ok k) = k
n_after n (Err why) = n

-- The load is the definition's, whatever n the host had: answer, n, plan buffer and table.
abbrev pub LoadIs : (frame before after : List ℕ) → (table filled : List NodeRecord) → Answered → Type 0
LoadIs frame before after table filled r =
    (n : ℕ) → load frame n before table ≡ record { answer = answer_of r; n = n_after n r; buffer = after; table = filled }

-- The call is the definition's: answer, n and both buffers.
abbrev pub OutcomeIs : Outcome → (n : ℕ) → (after scratch : List ℕ) → Answered → Type 0
OutcomeIs o n after scratch r = o ≡ record { answer = answer_of r; n = n_after n r; buffer = after; scratch = scratch }

-- The extract is the definition's: answer, n and both buffers, and the walk that it carries (request 10).
pub record ExtractIs (o : Outcome) (walk n : ℕ) (after scratch : List ℕ) (r : Extracted) : Type 0 where
  pub outcome : OutcomeIs o n after scratch r.answer
  pub carried : r.walk ≡ walk

-- An extract that is refused before it reads the leaves.
abbrev pub unwalked : Refusal → Extracted
unwalked why = record { answer = Err why; walk = 0 }

-- The merge is the definition's: answer, n, both buffers and the table.
abbrev pub MergeIs : MergeOutcome → (n : ℕ) → (after scratch : List ℕ) → (filled : List NodeRecord) → Answered → Type 0
MergeIs o n after scratch filled r =
    o ≡ record { answer = answer_of r; n = n_after n r; buffer = after; scratch = scratch; table = filled }

-- The print is the definition's: answer and text buffer.
abbrev pub PrintIs : (frame before after : List ℕ) → Answered → Type 0
PrintIs frame before after r = print frame before ≡ record { answer = answer_of r; buffer = after }
