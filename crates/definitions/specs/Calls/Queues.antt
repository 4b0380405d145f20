-- Request 12 of document 02: two queues of frames that wait for one planner, and what a put and a serve do to them.
use Rattle.std.specs.Prelude.{ℕ, List, [], ◌∷◌, ◌++◌, length, leb, ltb}
use Rattle.std.proofs.Math.Option.{Option, none, some}
use Rattle.definitions.specs.Words.Basics.{Result, ok, ◌>>◌, require}
use Rattle.definitions.specs.Words.Limits.{queue_places, place_bytes}

-- Queue 0 is the chassis's, queue 1 the fixed unit's.
pub data Queue : Type 0 where
  chassis fixed_unit : Queue

-- The number of a queue.
abbrev pub queue_number : Queue → ℕ
queue_number chassis = 0
queue_number fixed_unit = 1

-- The queue that is not this one.
abbrev pub other_queue : Queue → Queue
other_queue chassis = fixed_unit
other_queue fixed_unit = chassis

-- Who was served last.
pub data Mark : Type 0 where
  nobody : Mark
  last : Queue → Mark

-- The frames that wait in a queue, oldest first. Nothing looks into a frame.
abbrev pub Frames : Type 0
Frames = List (List ℕ)

-- The mark, and the frames of both queues.
pub record State : Type 0 where
  pub mark : Mark
  pub of_chassis : Frames
  pub of_fixed_unit : Frames

-- Nobody was served, and nothing waits.
abbrev pub fresh_state : State
fresh_state = record { mark = nobody; of_chassis = []; of_fixed_unit = [] }

-- The frames of a queue.
abbrev pub waiting : Queue → State → Frames
waiting chassis S = S.of_chassis
waiting fixed_unit S = S.of_fixed_unit

-- The state with these frames in a queue.
abbrev pub with_frames : Queue → Frames → State → State
with_frames chassis frames S = record { mark = S.mark; of_chassis = frames; of_fixed_unit = S.of_fixed_unit }
with_frames fixed_unit frames S = record { mark = S.mark; of_chassis = S.of_chassis; of_fixed_unit = frames }

-- The state with this queue as the last served.
abbrev pub marked : Queue → State → State
marked queue S = record { mark = last queue; of_chassis = S.of_chassis; of_fixed_unit = S.of_fixed_unit }

-- ---- put

-- A frame added at the end of a queue: 1 empty, 22 over 1,024 bytes, 23 queue full.
unfoldable pub put_in : Queue → (frame : List ℕ) → State → Result State
put_in queue frame S = do
  require 1 (ltb 0 (length frame))
  require 22 (leb (length frame) place_bytes)
  require 23 (ltb (length (waiting queue S)) queue_places)
  ok (with_frames queue (waiting queue S ++ (frame ∷ [])) S)

-- ---- serve

-- What a serve is to give: the oldest frame of a queue, and the state without it.
pub record Due : Type 0 where
  pub queue : Queue
  pub frame : List ℕ
  pub left : State

-- The queue that is tried first: the one that was not served last; from fresh queue 0.
unfoldable pub first_tried : Mark → Queue
first_tried nobody = chassis
first_tried (last queue) = other_queue queue

-- The oldest of these frames of a queue; if there is none, what is due otherwise.
unfoldable pub oldest : Queue → State → Frames → Option Due → Option Due
oldest queue S [] otherwise = otherwise
oldest queue S (frame ∷ later) otherwise =
    some (record { queue = queue; frame = frame; left = marked queue (with_frames queue later S) })

-- From the queue that is tried first if it holds a frame, else from the other; none with both empty.
unfoldable pub due : State → Option Due
due S =
    let queue : Queue = first_tried S.mark in
    oldest queue S (waiting queue S) (oldest (other_queue queue) S (waiting (other_queue queue) S) none)
