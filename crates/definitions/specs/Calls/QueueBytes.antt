-- Request 12 of document 02: the bytes of two queues, and the calls put and serve on lent buffers.
use Rattle.std.specs.Prelude.{ℕ, zero, suc, ◌+◌, ◌*◌, Bool, ◌&&◌, List, [], ◌∷◌, ◌++◌, map, length, take, drop, get_or, leb, eqb, if◌then◌else◌}
use Rattle.std.proofs.Math.Option.{Option, none, some}
use Rattle.definitions.specs.Words.Basics.{Result, ok, refused, ◌>>=◌, ◌>>◌, require, big_endian}
use Rattle.definitions.specs.Words.Limits.{queue_places, place_bytes, queue_bytes, queues_bytes}
use Rattle.definitions.specs.Calls.Base.{written_over}
use Rattle.definitions.specs.Calls.Queues.{Queue, chassis, fixed_unit, Mark, nobody, last, Frames, State, put_in, Due, due}

-- ---- where each thing stands: the mark, then for each queue a count, 16 lengths of 2 bytes and 16 places of 1,024

-- Where the bytes of a queue begin.
abbrev pub start : Queue → ℕ
start chassis = 1
start fixed_unit = 16418

-- The bytes of a queue.
abbrev pub part_of : Queue → (queues : List ℕ) → List ℕ
part_of queue queues = take queue_bytes (drop (start queue) queues)

-- The lengths of a queue,
abbrev pub lengths_of : (part : List ℕ) → List ℕ
lengths_of part = take 32 (drop 1 part)

-- and its places.
abbrev pub places_of : (part : List ℕ) → List ℕ
places_of part = drop 33 part

-- ---- the state that a buffer holds; 10 if there is none

-- The mark that a byte says.
unfoldable pub mark_of : ℕ → Result Mark
mark_of zero = ok nobody
mark_of (suc zero) = ok (last chassis)
mark_of (suc (suc zero)) = ok (last fixed_unit)
mark_of (suc (suc (suc n))) = refused 10

-- The number in the first two bytes.
abbrev pub short : List ℕ → ℕ
short bytes = get_or bytes 0 0 * 256 + get_or bytes 1 0

-- A held frame has 1 to 1,024 bytes.
abbrev pub is_length : ℕ → Bool
is_length n = leb 1 n && leb n place_bytes

-- So many frames, each the first bytes of its place.
unfoldable pub frames_of : (count : ℕ) → (lengths places : List ℕ) → Result Frames
frames_of zero lengths places = ok []
frames_of (suc n) lengths places = do
  require 10 (is_length (short lengths))
  later ← frames_of n (drop 2 lengths) (drop place_bytes places)
  ok (take (short lengths) places ∷ later)

-- The frames of a queue.
unfoldable pub queue_of : (part : List ℕ) → Result Frames
queue_of part = do
  require 10 (leb (get_or part 0 0) queue_places)
  frames_of (get_or part 0 0) (lengths_of part) (places_of part)

-- The state of both.
unfoldable pub state_of : (queues : List ℕ) → Result State
state_of queues = do
  require 10 (eqb (length queues) queues_bytes)
  mark ← mark_of (get_or queues 0 0)
  of_chassis ← queue_of (part_of chassis queues)
  of_fixed_unit ← queue_of (part_of fixed_unit queues)
  ok (record { mark = mark; of_chassis = of_chassis; of_fixed_unit = of_fixed_unit })

-- ---- a state written to a buffer; free bytes keep their values (ours: 02 leaves them open)

-- The byte of a mark.
abbrev pub mark_byte : Mark → ℕ
mark_byte nobody = 0
mark_byte (last chassis) = 1
mark_byte (last fixed_unit) = 2

-- Items written one to a slot of `width` bytes; the bytes of a slot after its item, and the slots after the last, as they were.
unfoldable pub in_slots : (width : ℕ) → (items : List (List ℕ)) → (bytes : List ℕ) → List ℕ
in_slots width [] bytes = bytes
in_slots width (item ∷ items) bytes = written_over item (take width bytes) ++ in_slots width items (drop width bytes)

-- The length of a frame, as bytes.
abbrev pub length_bytes : (frame : List ℕ) → List ℕ
length_bytes frame = big_endian 2 (length frame)

-- The frames of a queue: their count, lengths and places.
unfoldable pub queue_over : Frames → (part : List ℕ) → List ℕ
queue_over frames part =
    length frames ∷ (in_slots 2 (map length_bytes frames) (lengths_of part) ++ in_slots place_bytes frames (places_of part))

-- The state of both.
unfoldable pub state_over : State → (queues : List ℕ) → List ℕ
state_over S queues =
    mark_byte S.mark ∷ (queue_over S.of_chassis (part_of chassis queues) ++ queue_over S.of_fixed_unit (part_of fixed_unit queues))

-- ---- put: 21, 10, 1, 22, 23

-- The queue of a number; 21 if it is not 0 or 1.
unfoldable pub queue_numbered : ℕ → Result Queue
queue_numbered zero = ok chassis
queue_numbered (suc zero) = ok fixed_unit
queue_numbered (suc (suc n)) = refused 21

-- What a put gives: the frame's length or a refusal, and what the buffer is afterwards. (That it gives the length is ours.)
pub record PutOutcome : Type 0 where
  pub answer : Result ℕ
  pub queues : List ℕ

-- The state that it leaves, written; a refusal changes nothing.
unfoldable pub put_done : (queues frame : List ℕ) → Result State → PutOutcome
put_done queues frame (ok S) = record { answer = ok (length frame); queues = state_over S queues }
put_done queues frame (refused number) = record { answer = refused number; queues = queues }

-- The call put.
unfoldable pub put : (queues : List ℕ) → (queue : ℕ) → (frame : List ℕ) → PutOutcome
put queues number frame = put_done queues frame (do
  queue ← queue_numbered number
  S ← state_of queues
  put_in queue frame S)

-- ---- serve: 10, then 9

-- An accepted serve gives a queue and a frame's length, or says that both queues are empty.
pub data Served : Type 0 where
  frame_from : Queue → (length : ℕ) → Served
  both_empty : Served

-- What a serve gives: its answer, and what both buffers are afterwards.
pub record ServeOutcome : Type 0 where
  pub answer : Result Served
  pub queues : List ℕ
  pub out : List ℕ

-- The frame at the output's start and the state without it, 9 where the output is shorter; with both empty nothing changes.
unfoldable pub serve_due : (queues out : List ℕ) → Option Due → ServeOutcome
serve_due queues out none = record { answer = ok both_empty; queues = queues; out = out }
serve_due queues out (some d) =
    if leb (length d.frame) (length out)
    then record {
      answer = ok (frame_from d.queue (length d.frame));
      queues = state_over d.left queues;
      out = written_over d.frame out;
    }
    else record { answer = refused 9; queues = queues; out = out }

-- A refusal changes nothing.
unfoldable pub serve_held : (queues out : List ℕ) → Result State → ServeOutcome
serve_held queues out (ok S) = serve_due queues out (due S)
serve_held queues out (refused number) = record { answer = refused number; queues = queues; out = out }

-- The call serve.
unfoldable pub serve : (queues out : List ℕ) → ServeOutcome
serve queues out = serve_held queues out (state_of queues)
