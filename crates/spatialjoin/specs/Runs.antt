-- What holds after a read, and after a run.
use Rattle.std.specs.Prelude.{ℕ, ◌≡◌, List, Result, Ok, Err}
use Rattle.std.specs.declared.io.Error.{Error}
use Rattle.lines.specs.Pieces.{piece, fresh_session}
use Rattle.lines.specs.Sessions.{Stands, FinishedIs}
use Rattle.lines.specs.declared.states.Buffers.{Buffers}
use Rattle.lines.specs.declared.states.State.{State}
use Rattle.streams.specs.Turns.{settled, Flushed}
use Rattle.streams.specs.Handing.{TakenIn}
use Rattle.streams.specs.declared.output.Failure.{Failure}
use Rattle.streams.specs.declared.output.Failure.TheVariants.{NotWritten}
use Rattle.streams.specs.declared.output.Turn.{Turn}
use Rattle.streams.specs.declared.output.Turn.TheVariants.{More, Ended}

-- What waits after a turn was handed to the system, or the write failed; where the input ended or something failed, nothing is.
abbrev pub Written : Result Turn Failure → Result Turn Failure → Type 0
Written (Ok (More next)) (Ok (More left)) = left ≡ settled next
Written (Ok (More next)) (Ok (Ended last)) = ⊥
Written (Ok (More next)) (Err why) = why ≡ NotWritten
Written (Ok (Ended last)) r = r ≡ Ok (Ended last)
Written (Err why) r = r ≡ Err why

-- A read gave some number or failed, what it gave was taken in, and what waits then was handed to the system.
abbrev pub ReadOn : (chunk : List ℕ) (before : Buffers) (state : State) (after : Buffers) → Result Turn Failure → Type 0
ReadOn chunk before state after r =
    (got : Result ℕ Error) × (turn : Result Turn Failure) × TakenIn got chunk before state after turn × Written turn r

-- The end of the input is what it is for `lines`, and what waits then was handed to the system.
abbrev pub LastIs : (before : Buffers) (state : State) (after : Buffers) → Result State Failure → Type 0
LastIs before state after r = (last : State) × FinishedIs before state after last × Flushed last r

-- The state stands for what the program makes of some input, and nothing waits.
abbrev pub Reached : (b : Buffers) (state : State) → Type 0
Reached b state = (state.filled ≡ 0) × (input : List ℕ) × Stands b state (piece fresh_session input).after

-- A run reached the end of the input, with a state that stands for what came before it; or it stopped where reading or writing failed.
abbrev pub Ran : (after : Buffers) → Result Turn Failure → Type 0
Ran after (Ok (More next)) = Reached after next
Ran after (Ok (Ended last)) = Reached after last
Ran after (Err why) = Unit {0}
