-- What a turn is once what waits was written.
use Rattle.std.specs.Prelude.{◌<◌, ◌≡◌, leb, if◌then◌else◌, Result, Ok, Err}
use Rattle.lines.specs.Sessions.{most_filled}
use Rattle.lines.specs.declared.states.State.{State}
use Rattle.streams.specs.declared.output.Failure.{Failure}
use Rattle.streams.specs.declared.output.Failure.TheVariants.{NotWritten}

-- The state once what waits was written.
abbrev pub settled : State → State
settled state = record { n = state.n; count = state.count; filled = 0 }

-- What waits was handed to the system, or the write failed.
abbrev pub Flushed : State → Result State Failure → Type 0
Flushed state (Ok next) = next ≡ settled state
Flushed state (Err why) = why ≡ NotWritten

-- The state with room for what another line gives: what waits was written where there was none.
abbrev pub roomed : State → State
roomed state = if leb state.filled most_filled then state else settled state

-- Room was made, or a write failed: one is tried only where there is no room.
abbrev pub RoomMade : State → Result State Failure → Type 0
RoomMade state (Ok next) = next ≡ roomed state
RoomMade state (Err why) = (why ≡ NotWritten) × (most_filled < state.filled)
