-- Request 12 of document 02: lists of puts and serves on one buffer, and what was added and given.
use Rattle.std.specs.Prelude.{ℕ, Bool, List, [], ◌∷◌, take, replicate, eqb, if◌then◌else◌}
use Rattle.std.proofs.Math.Option.{Option, none, some}
use Rattle.definitions.specs.Words.Basics.{Result, ok, refused}
use Rattle.definitions.specs.Words.Limits.{queues_bytes}
use Rattle.definitions.specs.Calls.Queues.{Queue, queue_number, Frames, State, waiting}
use Rattle.definitions.specs.Calls.QueueBytes.{state_of, PutOutcome, put, Served, frame_from, both_empty, ServeOutcome, serve}

-- A call of a list: a put with its queue and frame, a serve with its output of any length and content.
pub data QueueCall : Type 0 where
  put_call : (queue : ℕ) → (frame : List ℕ) → QueueCall
  serve_call : (out : List ℕ) → QueueCall

-- A call that was made: a put with its answer, a serve with its answer and the output as it was left.
pub data QueueMade : Type 0 where
  made_put : (queue : ℕ) → (frame : List ℕ) → (answer : Result ℕ) → QueueMade
  made_serve : (answer : Result Served) → (out : List ℕ) → QueueMade

-- The calls of a list as they were made, and the buffer at its end.
pub record QueuesRun : Type 0 where
  pub made : List QueueMade
  pub queues : List ℕ

-- A list of calls, each on the buffer as it was left.
unfoldable pub queues_run : (queues : List ℕ) → List QueueCall → QueuesRun
queues_run queues [] = record { made = []; queues = queues }
queues_run queues (put_call number frame ∷ calls) =
    let one : PutOutcome = put queues number frame in
    let after : QueuesRun = queues_run one.queues calls in
    record { made = made_put number frame one.answer ∷ after.made; queues = after.queues }
queues_run queues (serve_call out ∷ calls) =
    let one : ServeOutcome = serve queues out in
    let after : QueuesRun = queues_run one.queues calls in
    record { made = made_serve one.answer one.out ∷ after.made; queues = after.queues }

-- All zero.
unfoldable pub fresh_queues : List ℕ
fresh_queues = replicate queues_bytes 0

-- ---- what is read off the buffer, the answers and the outputs

-- Whether two queues are the same.
abbrev pub same_queue : Queue → Queue → Bool
same_queue a b = eqb (queue_number a) (queue_number b)

-- The frames of a queue in a state that was read; none where there is no state.
unfoldable pub waiting_of : Queue → Result State → Frames
waiting_of queue (ok S) = waiting queue S
waiting_of queue (refused number) = []

-- The frames that a buffer holds in a queue.
unfoldable pub waiting_in : Queue → (queues : List ℕ) → Frames
waiting_in queue queues = waiting_of queue (state_of queues)

-- The frames that accepted puts added to a queue, in order.
unfoldable pub added : Queue → List QueueMade → Frames
added queue [] = []
added queue (made_put number frame (ok length) ∷ rest) =
    if eqb number (queue_number queue) then frame ∷ added queue rest else added queue rest
added queue (made_put number frame (refused why) ∷ rest) = added queue rest
added queue (made_serve answer out ∷ rest) = added queue rest

-- A frame that was given: its queue, and the bytes at the output's start.
pub record Given : Type 0 where
  pub queue : Queue
  pub frame : List ℕ

-- The serves that were not refused, in order: what each gave, or that it found both queues empty.
unfoldable pub served : List QueueMade → List (Option Given)
served [] = []
served (made_put number frame answer ∷ rest) = served rest
served (made_serve (ok (frame_from queue length)) out ∷ rest) = some (record { queue = queue; frame = take length out }) ∷ served rest
served (made_serve (ok both_empty) out ∷ rest) = none ∷ served rest
served (made_serve (refused why) out ∷ rest) = served rest

-- The frames of one queue among what they gave.
unfoldable pub given_of : Queue → List (Option Given) → Frames
given_of queue [] = []
given_of queue (none ∷ rest) = given_of queue rest
given_of queue (some one ∷ rest) = if same_queue one.queue queue then one.frame ∷ given_of queue rest else given_of queue rest
