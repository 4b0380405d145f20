-- What the functions on a whole buffer find and write.
use Rattle.std.specs.Prelude.{ℕ, ◌≡◌, Bool, true, false, List, ◌∷◌, Option, Some, None, Result as Given, Ok, Err}
use Rattle.std.proofs.Math.Option.{Option as Optional, none, some}
use Rattle.definitions.specs.Words.Basics.{Result, ok, refused}
use Rattle.definitions.specs.Calls.Queues.{Queue, Frames, State, waiting, with_frames, marked, oldest, due}
use Rattle.definitions.specs.Calls.Queues as queues
use Rattle.definitions.specs.Calls.QueueBytes.{state_of, serve_due}
use Rattle.terms.specs.declared.refusals.Refusal.{Refusal}
use Rattle.terms.specs.declared.refusals.Refusal.TheVariants.{NoGoodPlan}
use Rattle.queues.specs.Outcomes.{queue_is, ServeAnswered, ServeIs}
use Rattle.queues.specs.declared.answers.Queue.{Queue as Code}

-- Whether something is held; if not, the definition says 10.
abbrev pub GoodIs : {A : Type 0} → Bool → Result A → Type 0
GoodIs {A} true r = (a : A) × (r ≡ ok a)
GoodIs false r = r ≡ refused 10

-- A state is held.
abbrev pub Held : (b : List ℕ) → Type 0
Held b = (S : State) × (state_of b ≡ ok S)

-- One is, or the buffer is refused with 10 as the definition refuses it.
abbrev pub GoodQueuesIs : (b : List ℕ) → Given Unit Refusal → Type 0
GoodQueuesIs b (Ok held) = Held b
GoodQueuesIs b (Err why) = (why ≡ NoGoodPlan) × (state_of b ≡ refused 10)

-- What is due where a queue's oldest frame is.
abbrev pub due_from : Queue → (frame : List ℕ) → (later : Frames) → State → queues.Due
due_from queue frame later S = record { queue = queue; frame = frame; left = marked queue (with_frames queue later S) }

-- The oldest frame of a queue that holds one is due; or nothing is.
abbrev pub DueOf : State → Option Code → Optional queues.Due → Type 0
DueOf S (Some queue) d =
    (frame : List ℕ) × (later : Frames) × (waiting (queue_is queue) S ≡ frame ∷ later)
    × (d ≡ some (due_from (queue_is queue) frame later S))
DueOf S None d = d ≡ none

-- What is due where two queues are tried in this order,
abbrev pub FirstOf : (b : List ℕ) → (first second : Queue) → Option Code → Type 0
FirstOf b first second r =
    (S : State) → state_of b ≡ ok S → DueOf S r (oldest first S (waiting first S) (oldest second S (waiting second S) none))

-- and in the order that the mark says.
abbrev pub DueIs : (b : List ℕ) → Option Code → Type 0
DueIs b r = (S : State) → state_of b ≡ ok S → DueOf S r (due S)

-- A frame is held in a queue.
pub record HoldsQueued (b : List ℕ) (queue : Queue) : Type 0 where
  pub state : State
  pub frame : List ℕ
  pub later : Frames
  pub held : state_of b ≡ ok state
  pub first : waiting queue state ≡ frame ∷ later

-- It was served, if the output has room for it.
abbrev pub ServedFrom : (b : List ℕ) → Queue → (out after out_after : List ℕ) → ServeAnswered → Type 0
ServedFrom b queue out after out_after r =
    (S : State) (frame : List ℕ) (later : Frames) → state_of b ≡ ok S → waiting queue S ≡ frame ∷ later
    → ServeIs (serve_due b out (some (due_from queue frame later S))) after out_after r
