-- Lists of calls of the code, by the contracts of put and serve alone.
use Rattle.std.specs.Prelude.{ℕ, ◌≡◌, List, [], ◌∷◌}
use Rattle.definitions.specs.Calls.QueueBytes as definitions
use Rattle.definitions.specs.Lists.Queues.{QueueCall, put_call, serve_call, QueueMade, made_put, made_serve, queues_run}
use Rattle.call_answers.specs.Outcomes.{Answered, answer_of}
use Rattle.queues.specs.Outcomes.{ServeAnswered, serve_answer_of, PutIs, ServeIs}

-- A list of calls was made, each on the buffer as it was left: each met its contract, and gave its answer.
pub data Ran : (queues : List ℕ) → List QueueCall → List QueueMade → (left : List ℕ) → Type 0 where
  no_call : {queues : List ℕ} → Ran queues [] [] queues
  put_ran : {queues frame after left : List ℕ} {number : ℕ} {calls : List QueueCall} {made : List QueueMade}
      → (r : Answered) → PutIs (definitions.put queues number frame) after r → Ran after calls made left
      → Ran queues (put_call number frame ∷ calls) (made_put number frame (answer_of r) ∷ made) left
  serve_ran : {queues out after out_after left : List ℕ} {calls : List QueueCall} {made : List QueueMade}
      → (r : ServeAnswered) → ServeIs (definitions.serve queues out) after out_after r → Ran after calls made left
      → Ran queues (serve_call out ∷ calls) (made_serve (serve_answer_of r) out_after ∷ made) left

-- It is the definitions' list, so what is proved of lists of calls holds of the code.
abbrev pub CodeRuns : Type 0
CodeRuns =
    (queues left : List ℕ) (calls : List QueueCall) (made : List QueueMade) → Ran queues calls made left
    → queues_run queues calls ≡ record { made = made; queues = left }
