-- Which definition each number is, and what the buffers and the table are; and that what was lent are bytes.
use Rattle.std.specs.Prelude.{ℕ, ◌≡◌, List, ℤ}
use Rattle.definitions.specs.Calls.Base.{Outcome}
use Rattle.definitions.specs.Calls.Merge.{MergeOutcome}
use Rattle.definitions.specs.Bytes.NodeTable.{NodeRecord}
use Rattle.definitions.specs.Bytes.Good.{AllBytes}
use Rattle.definitions.specs.Calls.ExtractAll.{AllOutcome}
use Rattle.host_calls.specs.Hosts.{hosted, hosted_walk, hosted_serve, hosted_all}
use Rattle.definitions.specs.Calls.Print.{print}
use Rattle.definitions.specs.Filter.Settings.{Settings}
use Rattle.definitions.specs.Calls.QueueBytes.{PutOutcome, ServeOutcome}
use Rattle.definitions.specs.Calls.Explain.{ExplainOutcome}
use Rattle.call_answers.specs.Outcomes.{Answered, answer_of, LoadIs}

-- The load is the definition's, and the number is that of its answer.
abbrev pub LoadHosted : (frame before after : List ℕ) → (table filled : List NodeRecord) → ℤ → Type 0
LoadHosted frame before after table filled z =
    AllBytes frame × (r : Answered) × LoadIs frame before after table filled r × (z ≡ hosted (answer_of r))

-- The merge is the definition's: answer, both buffers and the table.
abbrev pub MergeHosted : (frame before : List ℕ) → MergeOutcome → (after scratch : List ℕ) (filled : List NodeRecord) → ℤ → Type 0
MergeHosted frame before o after scratch filled r =
    AllBytes frame × AllBytes before × (r ≡ hosted o.answer) × (after ≡ o.buffer) × (scratch ≡ o.scratch) × (filled ≡ o.table)

-- The call is the definition's: answer and both buffers. n is the host's to keep: the length that was answered, else as it was.
abbrev pub CallHosted : (before : List ℕ) → Outcome → (after scratch : List ℕ) → ℤ → Type 0
CallHosted before o after scratch r = AllBytes before × (r ≡ hosted o.answer) × (after ≡ o.buffer) × (scratch ≡ o.scratch)

-- The settings that a host gives: kinds, default k and greatest k (request 13).
abbrev pub settings_by : (kinds default_k greatest_k : ℕ) → Settings
settings_by kinds default_k greatest_k = record { kinds = kinds; default_k = default_k; greatest_k = greatest_k }

-- The extract is the definition's: answer and walk, and both buffers (request 10).
abbrev pub ExtractHosted : (before : List ℕ) → Outcome → (walk : ℕ) → (after scratch : List ℕ) → ℤ → Type 0
ExtractHosted before o walk after scratch r = AllBytes before × (r ≡ hosted_walk walk o.answer) × (after ≡ o.buffer) × (scratch ≡ o.scratch)

-- The print is the definition's: answer and text buffer.
abbrev pub PrintHosted : (frame before after : List ℕ) → ℤ → Type 0
PrintHosted frame before after r = (r ≡ hosted (print frame before).answer) × (after ≡ (print frame before).buffer)

-- The put is the definition's: answer and queues (request 12).
abbrev pub PutHosted : PutOutcome → (after : List ℕ) → ℤ → Type 0
PutHosted o after r = (r ≡ hosted o.answer) × (after ≡ o.queues)

-- The serve is the definition's: answer, queues and output (request 12).
abbrev pub ServeHosted : ServeOutcome → (after out_after : List ℕ) → ℤ → Type 0
ServeHosted o after out_after r = (r ≡ hosted_serve o.answer) × (after ≡ o.queues) × (out_after ≡ o.out)

-- The call that extracts all is the definition's: answer, rounds and buffer; the frame's numbers are bytes (request 14).
abbrev pub AllHosted : (frame : List ℕ) → AllOutcome → (after : List ℕ) → ℤ → Type 0
AllHosted frame o after r = AllBytes frame × (r ≡ hosted_all o.rounds o.answer) × (after ≡ o.buffer)

-- The call that explains is the definition's: answer and buffer; the frame's numbers are bytes. (Ours.)
abbrev pub ExplainHosted : (frame : List ℕ) → ExplainOutcome → (after : List ℕ) → ℤ → Type 0
ExplainHosted frame o after r = AllBytes frame × (r ≡ hosted o.answer) × (after ≡ o.buffer)
