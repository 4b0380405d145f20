-- What holds once characters were handed over.
use Rattle.std.specs.Prelude.{ℕ, ◌<◌, ◌≡◌, min, List, [], ◌++◌, take, length, Result, Ok, Err}
use Rattle.lines.specs.Pieces.{InputSession, piece}
use Rattle.lines.specs.Sessions.{Stands, Makes}
use Rattle.lines.specs.declared.states.Buffers.{Buffers}
use Rattle.lines.specs.declared.states.State.{State}
use Rattle.streams.specs.Turns.{roomed}
use Rattle.streams.specs.declared.output.Turn.{Turn}
use Rattle.streams.specs.declared.output.Turn.TheVariants.{More, Ended}
use Rattle.streams.specs.declared.output.Failure.{Failure}
use Rattle.streams.specs.declared.output.Failure.TheVariants.{NotRead, NotWritten}

-- Characters were handed over, each once and in order. What a piece of them gave waits behind what waited before; only where no room is
-- left for what another line gives does nothing wait any more.
pub data Handing (before : Buffers) (state : State) : (characters : List ℕ) (after : Buffers) (next : State) → Type 0 where
  none : Handing before state [] before state
  more : {p : List ℕ} {b after : Buffers} {current next : State} (q : List ℕ)
      → Handing before state p b current → Makes (λ s. piece s q) b current after next → Handing before state (p ++ q) after (roomed next)

-- The characters were handed over; or a write failed, and there were some.
abbrev pub Handed : (characters : List ℕ) (before : Buffers) (state : State) (after : Buffers) → Result State Failure → Type 0
Handed characters before state after (Ok next) = Handing before state characters after next
Handed characters before state after (Err why) = (why ≡ NotWritten) × (0 < length characters)

-- The characters of a chunk that a read gave: as many as it says, no more than there are, and none where it failed.
abbrev pub given_by_read : {E : Type 0} → (got : Result ℕ E) (chunk : List ℕ) → List ℕ
given_by_read (Ok k) chunk = take (min k (length chunk)) chunk
given_by_read (Err why) chunk = []

-- It failed.
abbrev pub Failed : {E : Type 0} → Result ℕ E → Type 0
Failed (Ok k) = ⊥
Failed (Err why) = Unit {0}

-- What a read gave was taken in: those characters were handed over; where it gave none the input is at its end, and where it failed
-- nothing comes; then all is as it was. A write fails only where the read gave something.
abbrev pub TakenIn : {E : Type 0} → (got : Result ℕ E) (chunk : List ℕ) (before : Buffers) (state : State) (after : Buffers)
    → Result Turn Failure → Type 0
TakenIn got chunk before state after (Ok (More next)) = Handing before state (given_by_read got chunk) after next
TakenIn got chunk before state after (Ok (Ended next)) = (got ≡ Ok 0) × (next ≡ state) × (after ≡ before)
TakenIn got chunk before state after (Err NotRead) = Failed got × (after ≡ before)
TakenIn got chunk before state after (Err NotWritten) = 0 < length (given_by_read got chunk)

-- Every session that the one stands for, the other stands for after these characters.
abbrev pub After : (characters : List ℕ) (before : Buffers) (state : State) (after : Buffers) (next : State) → Type 0
After characters before state after next = (s : InputSession) → Stands before state s → Stands after next (piece s characters).after
