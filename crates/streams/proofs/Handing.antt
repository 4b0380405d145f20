-- What was handed over makes up the piece that the state stands after, and there is room for what another line gives.
use Rattle.std.specs.Prelude.{if◌then◌else◌}
use Prim.Native.Nat.{ℕ, ◌-◌, ◌≤◌}
use native.Mathlib.Omega.{arith}
use mathlib.Core.Path.{◌≡◌, refl, sym, ap, ◌∙◌}
use mathlib.Core.Bool.{Bool, true, false}
use mathlib.Core.List.{List, [], ◌++◌, append_assoc}
use lib.ListN.{length, take, drop, length-drop, take-append-drop}
use lib.Seq.{take-length}
use lib.Dec.{leb}
use borrow.Author.Tests.{leb-true}
use Rattle.lines.specs.Pieces.{InputSession, piece}
use Rattle.lines.specs.Sessions.{Stands, Makes, most_filled}
use Rattle.lines.specs.declared.states.Buffers.{Buffers}
use Rattle.lines.specs.declared.states.State.{State}
use Rattle.lines.proofs.SessionLaws.{some-session}
use Rattle.lines.proofs.Whole.{piece-append}
use Rattle.streams.specs.Turns.{settled, roomed}
use Rattle.streams.specs.Handing.{Handing, none, more, After}

-- The front of a chunk was handed over, and this is the rest.
pub record HandedFront (chunk rest : List ℕ) (before : Buffers) (state : State) (after : Buffers) (next : State) : Type 0 where
  pub front : List ℕ
  pub whole : chunk ≡ front ++ rest
  pub handed : Handing before state front after next

pub nothing-handed : (chunk : List ℕ) (before : Buffers) (state : State) → HandedFront chunk chunk before state before state
nothing-handed chunk before state = record { front = []; whole = refl; handed = none }

left : (k : ℕ) (rest : List ℕ) → take (length rest - k) (drop k rest) ≡ drop k rest
left k rest = ap (λ (n : ℕ). take n (drop k rest)) (sym (length-drop k rest)) ∙ take-length (drop k rest)

-- What was taken from the rest follows what was handed over before.
pub taken : {before b after : Buffers} {state current fed next : State} {chunk rest : List ℕ} (k : ℕ)
    → HandedFront chunk rest before state b current
    → Makes (λ s. piece s (take k rest)) b current after fed
    → next ≡ roomed fed
    → HandedFront chunk (take (length rest - k) (drop k rest)) before state after next
taken {rest = rest} k old makes e = record {
  front = old.front ++ take k rest;
  whole =
      old.whole ∙ ap (λ (l : List ℕ). old.front ++ l) (sym (take-append-drop k rest))
      ∙ sym (append_assoc old.front (take k rest) (drop k rest)) ∙ ap (λ (l : List ℕ). (old.front ++ take k rest) ++ l) (sym (left k rest));
  handed = rw e (more (take k rest) old.handed makes);
}

-- There is room for what a line gives, and no more waits than did.
abbrev pub HasRoom : (current next : State) → Type 0
HasRoom current next = (next.filled ≤ most_filled) × (next.filled ≤ current.filled)

made-room : (current : State) (room : Bool) → leb current.filled most_filled ≡ room
    → HasRoom current (if room then current else settled current)
made-room current true e = (leb-true current.filled most_filled e, omega arith)
made-room current false e = (omega arith, omega arith)

pub has_room : (current : State) → HasRoom current (roomed current)
has_room current = made-room current (leb current.filled most_filled) refl

-- What waits plays no part in what the state stands for.
pub settled-stands : {b : Buffers} {state : State} {s : InputSession} → Stands b state s → Stands b (settled state) s
settled-stands h = record { room = omega arith; kept = h.kept; begun = h.begun }

roomed-stands : {b : Buffers} {state : State} {s : InputSession} (room : Bool) → Stands b state s
    → Stands b (if room then state else settled state) s
roomed-stands true h = h
roomed-stands false h = settled-stands h

-- The state stands for what came before and these characters.
pub stands_after : {before : Buffers} {state : State} {after : Buffers} {next : State} {p : List ℕ} → Handing before state p after next
    → After p before state after next
unfolding piece
stands_after none s h = h
stands_after (more {p} {current = current} {next = fed} q old makes) s h =
    rw (piece-append s p q).1 (roomed-stands (leb fed.filled most_filled) (makes (piece s p).after (stands_after old s h)).stands)

-- What waits fits its buffer.
pub fits_after : {before : Buffers} {state : State} {after : Buffers} {next : State} {p : List ℕ} → Handing before state p after next
    → state.filled ≤ length before.out → next.filled ≤ length after.out
fits_after none h = h
fits_after (more {b = b} {current = current} {next = fed} q old makes) h =
    let some = some-session b current (fits_after old h) in
    omega (arith, (has_room fed).1, (makes some.0 some.1).stands.room)
