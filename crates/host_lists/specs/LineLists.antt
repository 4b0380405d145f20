-- The program's lines by the two-bit machine: each line out is that of the machine's answer and plan.
use Rattle.std.specs.Prelude.{ℕ, ◌≡◌, List, [], ◌∷◌, ◌++◌, length, take, replicate, eqb, if◌then◌else◌}
use Rattle.definitions.specs.Words.Limits.{most_bytes, most_nodes}
use Rattle.definitions.specs.Words.Basics.{Result, ok, refused, map_result}
use Rattle.definitions.specs.Bytes.Encode.{plan_bytes}
use Rattle.definitions.specs.Filter.Match.{match_leaf}
use Rattle.definitions.specs.Lists.Machine.{Kind, extract_call, exchange_call}
use Rattle.definitions.specs.Calls.Logical.{logical, logical_bytes}
use Rattle.definitions.specs.Lists.Program.{line_bytes, Kept, line_outcome, written_line, lines_of, output}
use Rattle.definitions.specs.Lists.History.{Call, loading, making, State, nothing, state_plan, Answered, machine_call}
use Rattle.lines.specs.Answers.{LineAnswered, answer_bytes, length_after, kept_as, AnswerIs}

-- ---- the machine's lines

-- What the machine gives for a line: the answer's bytes or a refusal, and its state afterwards.
pub record MachineLine : Type 0 where
  pub answer : Result (List ℕ)
  pub state : State

-- A refusal keeps the state.
abbrev pub refuse_line : (number : ℕ) → State → MachineLine
refuse_line number s = record { answer = refused number; state = s }

-- A call as a line: the machine's plan where the call is accepted.
abbrev pub line_of_call : Answered → MachineLine
line_of_call a = record { answer = map_result (λ n. plan_bytes (state_plan match_leaf a.state)) a.answer; state = a.state }

-- The machine's call over the program's buffers: a plan buffer of 16,384 bytes and a table of 1,024 records.
abbrev pub program_call : State → Call → Answered
program_call s c = machine_call match_leaf most_bytes most_nodes s c

-- `21` and `22`, with a scratch of 16,384 bytes; 7 where more follows.
unfoldable pub machine_call_line : Kind → (more : List ℕ) → State → MachineLine
machine_call_line kind (b ∷ more) s = refuse_line 7 s
machine_call_line kind [] s = line_of_call (program_call s (making (record { kind = kind; scratch = replicate most_bytes 0 })))

-- A line by its first byte.
unfoldable pub machine_line_of : (bytes : List ℕ) → State → MachineLine
machine_line_of [] s = refuse_line 1 s
machine_line_of (first ∷ more) s =
    if eqb first 0x01 then line_of_call (program_call s (loading (first ∷ more))) else
    if eqb first 0x02 then record { answer = map_result logical_bytes (logical (first ∷ more)); state = s } else
    if eqb first 0x21 then machine_call_line extract_call more s else
    if eqb first 0x22 then machine_call_line exchange_call more s else
    refuse_line 2 s

-- 14 comes first.
unfoldable pub machine_reads : Result (List ℕ) → State → MachineLine
machine_reads (ok bytes) s = machine_line_of bytes s
machine_reads (refused number) s = refuse_line number s

-- A line of characters.
abbrev pub machine_line : (line : List ℕ) → State → MachineLine
machine_line line s = machine_reads (line_bytes line) s

-- The answers of lines, one after another, and the state at their end.
pub record MachineLines : Type 0 where
  pub answers : List (Result (List ℕ))
  pub state : State

unfoldable pub machine_lines : State → (lines : List (List ℕ)) → MachineLines
machine_lines s [] = record { answers = []; state = s }
machine_lines s (line ∷ lines) =
    let one : MachineLine = machine_line line s in
    let others : MachineLines = machine_lines one.state lines in
    record { answers = one.answer ∷ others.answers; state = others.state }

-- What is written for answers: a line for each.
unfoldable pub written : List (Result (List ℕ)) → List ℕ
written [] = []
written (answer ∷ answers) = written_line answer ++ written answers

-- What the program writes for an input is what the machine gives for its lines, from nothing held.
abbrev pub ProgramIsMachine : Type 0
ProgramIsMachine = (input : List ℕ) → output input ≡ written (machine_lines nothing (lines_of input)).answers

-- ---- the code's lines

-- Lines were answered, each by `line_calls::answer_line`, which met its contract and was given the n and the plan buffer that the one
-- before left.
pub data LinesRan : Kept → List (List ℕ) → List (Result (List ℕ)) → Kept → Type 0 where
  no_line : {k : Kept} → LinesRan k [] [] k
  one_line : {k last : Kept} {plan line : List ℕ} {lines : List (List ℕ)} {r : LineAnswered} {answers : List (Result (List ℕ))}
      → AnswerIs (line_outcome line (kept_as k.n k.buffer)) k.n plan r
      → LinesRan (kept_as (length_after k.n r) plan) lines answers last
      → LinesRan k (line ∷ lines) (answer_bytes plan r ∷ answers) last

-- From nothing held in a plan buffer of 16,384 bytes every list of lines gives the machine's answers and leaves the machine's plan.
abbrev pub LinesMeetDemandThree : Type 0
LinesMeetDemandThree =
    (plan : List ℕ) → length plan ≡ most_bytes → (lines : List (List ℕ)) (answers : List (Result (List ℕ))) (last : Kept)
    → LinesRan (kept_as 0 plan) lines answers last
    → let m : MachineLines = machine_lines nothing lines in
    (answers ≡ m.answers) × (take last.n last.buffer ≡ plan_bytes (state_plan match_leaf m.state))
    × (last.n ≡ length (plan_bytes (state_plan match_leaf m.state)))
