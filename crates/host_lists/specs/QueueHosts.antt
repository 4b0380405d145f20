-- Request 12 of a host's own lists of `spatialjoin_put` and `spatialjoin_serve`, each call by the relation that its contract cites.
use Rattle.std.specs.Prelude.{ℕ, suc, ◌+◌, ◌-◌, ◌*◌, ◌≤◌, ◌≡◌, List, [], ◌∷◌, ◌++◌, ℤ, pos, negsuc, length, eqb, ltb, if◌then◌else◌}
use Rattle.definitions.specs.Words.Basics.{Result, ok, refused}
use Rattle.definitions.specs.Calls.Queues.{Queue, chassis, fixed_unit, queue_number, State}
use Rattle.definitions.specs.Calls.QueueBytes.{state_of, put, Served, frame_from, both_empty, serve}
use Rattle.definitions.specs.Lists.Queues.{QueueCall, put_call, serve_call, QueueMade, made_put, made_serve, queues_run, fresh_queues, waiting_in, added, served, given_of}
use Rattle.definitions.specs.Claims.Queues.{ComesOut}
use Rattle.host_calls.specs.Hosts.{hosted, hosted_serve}
use Rattle.host_calls.specs.Hosted.{PutHosted, ServeHosted}
use Rattle.host_lists.specs.Numbers.{answered}

-- What a serve's number says: 0 that both queues are empty, else queue · 65,536 + length.
abbrev pub served_as : ℕ → Served
served_as k =
    if eqb k 0 then both_empty else
    if ltb k 65536 then frame_from chassis k else frame_from fixed_unit (k - 65536)

-- The answer that a host reads off a serve's number; one below 0 is minus the number of the refusal.
abbrev pub serve_answered : ℤ → Result Served
serve_answered (pos k) = ok (served_as k)
serve_answered (negsuc less) = refused (suc less)

-- From the number of a put or a serve its answer is known.
abbrev pub QueueNumbersKnown : Type 0
QueueNumbersKnown =
    ((queues : List ℕ) (number : ℕ) (frame : List ℕ)
    → answered (hosted (put queues number frame).answer) ≡ (put queues number frame).answer)
    × ((queues out : List ℕ) → serve_answered (hosted_serve (serve queues out).answer) ≡ (serve queues out).answer)

-- A call met its contract on this buffer and left the other; it is told with the answer that the host read off its number.
pub data QueueHosted : (queues : List ℕ) → QueueCall → QueueMade → (left : List ℕ) → Type 0 where
  put_hosted : {queues frame left : List ℕ} {number : ℕ} (z : ℤ) → PutHosted (put queues number frame) left z
      → QueueHosted queues (put_call number frame) (made_put number frame (answered z)) left
  serve_hosted : {queues out left out_left : List ℕ} (z : ℤ) → ServeHosted (serve queues out) left out_left z
      → QueueHosted queues (serve_call out) (made_serve (serve_answered z) out_left) left

-- A host made a list of calls, each on the buffer that the one before left.
pub data QueuesHosted : (queues : List ℕ) → List QueueCall → List QueueMade → (left : List ℕ) → Type 0 where
  hosted_none : {queues : List ℕ} → QueuesHosted queues [] [] queues
  hosted_one : {queues after left : List ℕ} {call : QueueCall} {calls : List QueueCall} {one : QueueMade} {made : List QueueMade}
      → QueueHosted queues call one after → QueuesHosted after calls made left → QueuesHosted queues (call ∷ calls) (one ∷ made) left

pub record HostQueues : Type 0 where
  -- From any buffer the list is the definitions', so that what is claimed of their lists holds of it.
  pub same : (queues : List ℕ) (calls : List QueueCall) (made : List QueueMade) (left : List ℕ) → QueuesHosted queues calls made left
      → queues_run queues calls ≡ record { made = made; queues = left }
  -- From any buffer every list of calls runs.
  pub runs : (queues : List ℕ) (calls : List QueueCall)
      → (made : List QueueMade) × (left : List ℕ) × QueuesHosted queues calls made left
  -- From fresh a state is held whatever was called: 10 never comes.
  pub held : (calls : List QueueCall) (made : List QueueMade) (left : List ℕ) → QueuesHosted fresh_queues calls made left
      → (S : State) × (state_of left ≡ ok S)
  -- From fresh each queue gives its frames in the order they came.
  pub in_order : (calls : List QueueCall) (made : List QueueMade) (left : List ℕ) → QueuesHosted fresh_queues calls made left
      → (queue : Queue) → given_of queue (served made) ++ waiting_in queue left ≡ added queue made
  -- From fresh a frame that was put behind j others of its queue, with any number that is not below 0, comes out no later than the
  -- (2j + 2)th serve after it, refused serves not counted, whatever else is called.
  pub fair : (earlier later : List QueueCall) (made since : List QueueMade) (before after left : List ℕ) (queue : Queue) (frame : List ℕ)
      (n : ℕ) → QueuesHosted fresh_queues earlier made before → PutHosted (put before (queue_number queue) frame) after (pos n)
      → QueuesHosted after later since left
      → let j : ℕ = length (waiting_in queue before) in
      2 * j + 2 ≤ length (served since)
      → ComesOut (served since) queue frame j (2 * j + 2)
