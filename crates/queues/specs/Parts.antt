-- What the functions on the bytes of one queue need and write.
use Rattle.std.specs.Prelude.{ℕ, ◌+◌, ◌*◌, ◌≤◌, ◌<◌, ◌≡◌, List, [], ◌∷◌, ◌++◌, length, take, drop}
use Rattle.definitions.specs.Words.Limits.{place_bytes}
use Rattle.definitions.specs.Words.Basics.{ok, big_endian}
use Rattle.definitions.specs.Calls.Queues.{Frames}
use Rattle.definitions.specs.Calls.QueueBytes.{queue_of, queue_over}
use Rattle.expression.specs.Places.{short_at}
use Rattle.byte_writer.specs.Written.{WroteAt}

-- Two writes, one after the other: a frame's length and its bytes, as those of place k.
pub record Put (before : List ℕ) (k : ℕ) (frame after : List ℕ) : Type 0 where
  pub between : List ℕ
  pub ended : ℕ
  pub number : WroteAt (1 + 2 * k) (big_endian 2 (length frame)) before between ended
  pub bytes : WroteAt (33 + 1024 * k) frame between after (33 + 1024 * k + length frame)

-- There is a place for a frame behind `count` others.
pub record HasRoom (part : List ℕ) (count : ℕ) (frame : List ℕ) : Type 0 where
  pub long : length part ≡ 16417
  pub few : count < 16
  pub low : 1 ≤ length frame
  pub high : length frame ≤ place_bytes

-- If these others are held, the frame was added behind them.
abbrev pub FrameAdded : (before : List ℕ) (count : ℕ) (frame after : List ℕ) → Type 0
FrameAdded before count frame after =
    (frames : Frames) → queue_of before ≡ ok frames → length frames ≡ count → after ≡ queue_over (frames ++ (frame ∷ [])) before

-- The frame of place k + 1.
abbrev pub next_frame : (part : List ℕ) (k : ℕ) → List ℕ
next_frame part k = take (short_at part (3 + 2 * k)) (drop (1057 + 1024 * k) part)

-- There is one.
pub record HasNext (part : List ℕ) (k : ℕ) : Type 0 where
  pub long : length part ≡ 16417
  pub few : k < 15
  pub fits : short_at part (3 + 2 * k) ≤ place_bytes

-- It was put to place k.
abbrev pub FrameMoved : (before : List ℕ) (k : ℕ) (after : List ℕ) → Type 0
FrameMoved before k after = Put before k (next_frame before k) after

-- A frame is held.
pub record HasFirst (part : List ℕ) : Type 0 where
  pub long : length part ≡ 16417
  pub first : List ℕ
  pub later : Frames
  pub holds : queue_of part ≡ ok (first ∷ later)

-- The oldest was taken out: the later ones are held.
abbrev pub FirstTaken : (before after : List ℕ) → Type 0
FirstTaken before after = (first : List ℕ) (later : Frames) → queue_of before ≡ ok (first ∷ later) → after ≡ queue_over later before
