-- A run: what the reads gave makes up the input so far.
use Rattle.std.specs.Prelude.{Result, Ok, Err}
use Rattle.std.specs.declared.io.Error.{Error}
use Prim.Native.Nat.{ℕ}
use mathlib.Core.Path.{◌≡◌, refl}
use mathlib.Core.List.{List, [], ◌++◌}
use Rattle.lines.specs.Pieces.{piece, fresh_session}
use Rattle.lines.specs.Sessions.{Stands}
use Rattle.lines.specs.declared.states.Buffers.{Buffers}
use Rattle.lines.specs.declared.states.State.{State}
use Rattle.lines.proofs.Whole.{piece-append}
use Rattle.streams.specs.Handing.{given_by_read, TakenIn}
use Rattle.streams.specs.declared.output.Failure.{Failure}
use Rattle.streams.specs.declared.output.Turn.{Turn}
use Rattle.streams.specs.declared.output.Turn.TheVariants.{More, Ended}
use Rattle.streams.proofs.Handing.{settled-stands, stands_after}
use Rattle.spatialjoin.specs.Runs.{Written, ReadOn, Reached}

pub reached-none : {b : Buffers} {state : State} → state.filled ≡ 0 → Stands b state fresh_session → Reached b state
unfolding piece
reached-none e stands = (e, [], stands)

module _ (chunk : List ℕ) {before after : Buffers} {state next : State} (r : Reached before state) where
  -- The input goes on only where characters were handed over; what waits then was written.
  more_by : (got : Result ℕ Error) (turn : Result Turn Failure) → TakenIn got chunk before state after turn
      → Written turn (Ok (More next)) → Reached after next
  more_by got (Ok (More fed)) taken wrote = (
    rw wrote refl,
    r.1 ++ given_by_read got chunk,
    rw (wrote, (piece-append fresh_session r.1 (given_by_read got chunk)).1) (settled-stands (stands_after taken _ r.2)),
  )
  more_by got (Ok (Ended last)) taken wrote = cc
  more_by got (Err why) taken wrote = cc

  pub reached-more : ReadOn chunk before state after (Ok (More next)) → Reached after next
  reached-more on = more_by on.0 on.1 on.2 on.3

  -- It ends where it is.
  end_by : (got : Result ℕ Error) (turn : Result Turn Failure) → TakenIn got chunk before state after turn
      → Written turn (Ok (Ended next)) → Reached after next
  end_by got (Ok (More fed)) taken wrote = absurd wrote
  end_by got (Ok (Ended last)) taken wrote = let same : next ≡ last = cc in rw (same, taken.1, taken.2) r
  end_by got (Err why) taken wrote = cc

  pub reached-end : ReadOn chunk before state after (Ok (Ended next)) → Reached after next
  reached-end on = end_by on.0 on.1 on.2 on.3
