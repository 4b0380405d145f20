-- Request 12 of document 02: what is claimed of two queues and of the calls put and serve; crate `theorems` proves each claim.
use Rattle.std.specs.Prelude.{ℕ, ◌+◌, ◌*◌, ◌≤◌, ◌<◌, ◌≡◌, List, [], ◌∷◌, ◌++◌, length, take, leb, if◌then◌else◌}
use Rattle.std.proofs.Math.Option.{Option, some}
use Rattle.definitions.specs.Words.Basics.{ok, refused}
use Rattle.definitions.specs.Words.Limits.{queue_places, place_bytes, queues_bytes}
use Rattle.definitions.specs.Bytes.Good.{AllBytes}
use Rattle.definitions.specs.Calls.Queues.{Queue, queue_number, other_queue, Frames, State, waiting, with_frames, marked, first_tried}
use Rattle.definitions.specs.Calls.QueueBytes.{state_of, state_over, PutOutcome, put, frame_from, both_empty, ServeOutcome, serve}
use Rattle.definitions.specs.Lists.Queues.{QueueCall, put_call, QueueMade, queues_run, fresh_queues, waiting_in, added, Given, served, given_of}
use Rattle.definitions.specs.Claims.Calls.{SameFrom}

-- ---- bytes

-- Every frame has 1 to 1,024 bytes.
abbrev pub FramesFit : Frames → Type 0
FramesFit [] = Unit {0}
FramesFit (frame ∷ frames) = (1 ≤ length frame) × (length frame ≤ place_bytes) × FramesFit frames

-- Each queue has at most 16 frames, each of 1 to 1,024 bytes.
abbrev pub QueuesFit : State → Type 0
QueuesFit S = (queue : Queue) → (length (waiting queue S) ≤ queue_places) × FramesFit (waiting queue S)

-- A state that fits, written to a buffer, is read back.
abbrev pub StateReadBack : Type 0
StateReadBack = (S : State) (queues : List ℕ) → QueuesFit S → length queues ≡ queues_bytes → state_of (state_over S queues) ≡ ok S

-- A state that is held fits, and writing it where it is held changes nothing.
abbrev pub StateHeld : Type 0
StateHeld = (S : State) (queues : List ℕ) → AllBytes queues → state_of queues ≡ ok S → QueuesFit S × (state_over S queues ≡ queues)

-- ---- one call, on any buffer

-- A put added the frame at the end of the queue of its number: nothing else of the state changed, and it gave the frame's length.
pub record PutAdded (queues : List ℕ) (number : ℕ) (frame : List ℕ) (n : ℕ) (o : PutOutcome) : Type 0 where
  pub queue : Queue
  pub state : State
  pub numbered : number ≡ queue_number queue
  pub holds : state_of queues ≡ ok state
  pub not_empty : 1 ≤ length frame
  pub not_long : length frame ≤ place_bytes
  pub not_full : length (waiting queue state) < queue_places
  pub size : n ≡ length frame
  pub leaves : state_of o.queues ≡ ok (with_frames queue (waiting queue state ++ (frame ∷ [])) state)

-- An accepted put does.
abbrev pub PutAdds : Type 0
PutAdds =
    (queues : List ℕ) (number : ℕ) (frame : List ℕ) (n : ℕ) → (put queues number frame).answer ≡ ok n
    → PutAdded queues number frame n (put queues number frame)

-- A serve gave the oldest frame of this queue, which holds one, the other being empty if it was to be tried first. The frame is at the
-- output's start, the bytes after it are as they were, and the state is left without it, this queue being the last served.
pub record ServeTook (queues out : List ℕ) (queue : Queue) (n : ℕ) (o : ServeOutcome) : Type 0 where
  pub state : State
  pub frame : List ℕ
  pub later : Frames
  pub holds : state_of queues ≡ ok state
  pub oldest : waiting queue state ≡ frame ∷ later
  pub turn : first_tried state.mark ≡ other_queue queue → waiting (other_queue queue) state ≡ []
  pub size : n ≡ length frame
  pub written : take n o.out ≡ frame
  pub others : SameFrom n out o.out
  pub leaves : state_of o.queues ≡ ok (marked queue (with_frames queue later state))

-- A serve that gives a queue and a length does.
abbrev pub ServeTakes : Type 0
ServeTakes =
    (queues out : List ℕ) (queue : Queue) (n : ℕ) → (serve queues out).answer ≡ ok (frame_from queue n)
    → ServeTook queues out queue n (serve queues out)

-- A refused put changes nothing; nor does a refused serve, nor one that says that both queues are empty, and then both are.
abbrev pub QueuesKept : Type 0
QueuesKept =
    ((queues : List ℕ) (number : ℕ) (frame : List ℕ) (why : ℕ) → (put queues number frame).answer ≡ refused why
    → (put queues number frame).queues ≡ queues)
    × ((queues out : List ℕ) (why : ℕ) → (serve queues out).answer ≡ refused why
    → ((serve queues out).queues ≡ queues) × ((serve queues out).out ≡ out))
    × ((queues out : List ℕ) → (serve queues out).answer ≡ ok both_empty
    → ((serve queues out).queues ≡ queues) × ((serve queues out).out ≡ out) × ((queue : Queue) → waiting_in queue queues ≡ []))

-- The length that a call gives is from 1 to 1,024; so no number that a host gets for a frame is 0, which says that both are empty.
abbrev pub QueueLengths : Type 0
QueueLengths =
    ((queues : List ℕ) (number : ℕ) (frame : List ℕ) (n : ℕ) → (put queues number frame).answer ≡ ok n → (1 ≤ n) × (n ≤ place_bytes))
    × ((queues out : List ℕ) (queue : Queue) (n : ℕ) → (serve queues out).answer ≡ ok (frame_from queue n) → (1 ≤ n) × (n ≤ place_bytes))

-- ---- lists of calls, from any buffer

-- Free bytes are free: on two buffers that hold the same state every list of calls has the same answers and outputs, and leaves
-- buffers that hold the same state again.
abbrev pub FreeBytes : Type 0
FreeBytes =
    (S : State) (queues queues' : List ℕ) → state_of queues ≡ ok S → state_of queues' ≡ ok S → (calls : List QueueCall)
    → ((queues_run queues calls).made ≡ (queues_run queues' calls).made)
    × ((T : State) → state_of (queues_run queues calls).queues ≡ ok T → state_of (queues_run queues' calls).queues ≡ ok T)

-- A list of calls in two parts is run part by part.
abbrev pub RunParts : Type 0
RunParts =
    (queues : List ℕ) (first second : List QueueCall)
    → queues_run queues (first ++ second) ≡ record {
      made = (queues_run queues first).made ++ (queues_run (queues_run queues first).queues second).made;
      queues = (queues_run (queues_run queues first).queues second).queues;
    }

-- ---- lists of calls from fresh

-- The calls of a list as they were made,
abbrev pub made_by : List QueueCall → List QueueMade
made_by calls = (queues_run fresh_queues calls).made

-- and the buffer that it leaves.
abbrev pub left_by : List QueueCall → List ℕ
left_by calls = (queues_run fresh_queues calls).queues

-- After every list of calls a state is held: 10 never comes.
abbrev pub AlwaysHeld : Type 0
AlwaysHeld = (calls : List QueueCall) → (S : State) × (state_of (left_by calls) ≡ ok S)

-- Nothing is lost, nothing is invented, and each queue gives its frames in the order they came:
-- what it gave, followed by what it still holds, is what was added to it.
abbrev pub InOrder : Type 0
InOrder =
    (calls : List QueueCall) (queue : Queue)
    → given_of queue (served (made_by calls)) ++ waiting_in queue (left_by calls) ≡ added queue (made_by calls)

-- Where a frame waits, a serve gives one, or refuses with 9 for want of output, and never says that both queues are empty; 1,024
-- bytes of output are enough.
abbrev pub ServeGives : Type 0
ServeGives =
    (calls : List QueueCall) (queue : Queue) (out : List ℕ) → 1 ≤ length (waiting_in queue (left_by calls))
    → (one : Given) × (length one.frame ≤ place_bytes)
    × ((serve (left_by calls) out).answer
    ≡ (if leb (length one.frame) (length out) then ok (frame_from one.queue (length one.frame)) else refused 9))

-- ---- fairness

-- The serves of later calls that were not refused, made after earlier calls from fresh.
abbrev pub served_after : (earlier later : List QueueCall) → List (Option Given)
served_after earlier later = served (queues_run (left_by earlier) later).made

-- One of these serves gave the frame, after `behind` others of its queue, and fewer than `soon` serves are before it.
pub record ComesOut (serves : List (Option Given)) (queue : Queue) (frame : List ℕ) (behind soon : ℕ) : Type 0 where
  pub before : List (Option Given)
  pub after : List (Option Given)
  pub there : serves ≡ before ++ (some (record { queue = queue; frame = frame }) ∷ after)
  pub in_turn : length (given_of queue before) ≡ behind
  pub in_time : length before < soon

-- A frame put behind j others of its queue comes out no later than the (2j + 2)th serve after it, refused serves not counted, whatever
-- else is called.
abbrev pub FairQueues : Type 0
FairQueues =
    (earlier later : List QueueCall) (queue : Queue) (frame : List ℕ)
    → let j : ℕ = length (waiting_in queue (left_by earlier)) in
    let serves : List (Option Given) = served_after (earlier ++ (put_call (queue_number queue) frame ∷ [])) later in
    (put (left_by earlier) (queue_number queue) frame).answer ≡ ok (length frame)
    → 2 * j + 2 ≤ length serves
    → ComesOut serves queue frame j (2 * j + 2)

-- A frame that was put behind j others of its queue and came out as the (2j + 2)th.
pub record Latest (j : ℕ) : Type 0 where
  pub earlier : List QueueCall
  pub later : List QueueCall
  pub queue : Queue
  pub frame : List ℕ
  pub others : length (waiting_in queue (left_by earlier)) ≡ j
  pub comes_out : ComesOut (served_after (earlier ++ (put_call (queue_number queue) frame ∷ [])) later) queue frame j (2 * j + 2)
  pub late : length comes_out.before ≡ 2 * j + 1

-- The bound is reached behind any number of others that leave a place.
abbrev pub BoundReached : Type 0
BoundReached = (j : ℕ) → j < queue_places → Latest j
