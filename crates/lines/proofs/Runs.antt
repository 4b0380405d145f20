-- What a run has written, with what waits, is what one piece of all that was fed writes.
use Prim.Native.Nat.{ℕ, ◌+◌, ◌≤◌}
use native.Mathlib.Omega.{arith}
use mathlib.Core.Path.{◌≡◌, refl, sym, ap, ◌∙◌}
use mathlib.Core.List.{List, [], ◌∷◌, ◌++◌, append_assoc, append-nil}
use lib.ListN.{length, take, drop, length-append}
use lib.Seq.{length-take-le, take_at}
use Rattle.byte_writer.specs.Written.{WroteAt}
use Rattle.lines.specs.Pieces.{piece, fresh_session}
use Rattle.lines.specs.declared.states.Buffers.{Buffers}
use Rattle.lines.specs.declared.states.State.{State}
use Rattle.lines.specs.Sessions.{Stands}
use Rattle.lines.specs.Runs.{together, Reached, start, feeding, writing, RunsWrite}
use Rattle.lines.proofs.SessionLaws.{at-end}
use Rattle.lines.proofs.Whole.{piece-append, whole-input}

-- What was written from a place on follows what stood before it.
follows : {at end : ℕ} {x before after : List ℕ} → at ≤ length before → WroteAt at x before after end → take end after ≡ take at before ++ x
follows {at} {end} {x} {before} {after} room w =
    let size : length (take at before ++ x) ≡ end = simp length-append (omega (arith, w.ends, length-take-le at before room)) in
    ap (take end) (w.out ∙ sym (append_assoc (take at before) x (drop (at + length x) before))) ∙ take_at (take at before ++ x) _ end size

together-append : (ps : List (List ℕ)) (p : List ℕ) → together (ps ++ (p ∷ [])) ≡ together ps ++ p
unfolding together
together-append [] p = append-nil p
together-append (q ∷ ps) p = ap (λ (l : List ℕ). q ++ l) (together-append ps p) ∙ sym (append_assoc q (together ps) p)

-- The state stands for the session after all that was fed.
record Holds (ps : List (List ℕ)) (w : List ℕ) (b : Buffers) (state : State) : Type 0 where
  written : w ++ take state.filled b.out ≡ (piece fresh_session (together ps)).out
  stands : Stands b state (piece fresh_session (together ps)).after

-- What is written next follows.
next-written : {ps : List (List ℕ)} {w : List ℕ} {b : Buffers} {state : State} {x out : List ℕ} {end : ℕ} → Holds ps w b state
    → WroteAt state.filled x b.out out end → w ++ take end out ≡ (piece fresh_session (together ps)).out ++ x
next-written {ps} {w} {b} {state} {x} h wrote =
    ap (λ (l : List ℕ). w ++ l) (follows h.stands.room wrote) ∙ sym (append_assoc w (take state.filled b.out) x)
    ∙ ap (λ (l : List ℕ). l ++ x) h.written

holds : {ps : List (List ℕ)} {w : List ℕ} {b : Buffers} {state : State} → Reached ps w b state → Holds ps w b state
unfolding together piece
holds (start e stands) = record { written = rw e refl; stands = stands }
holds (feeding {ps = ps} p r makes) =
    let h = holds r in
    let made = makes (piece fresh_session (together ps)).after h.stands in
    let both = piece-append fresh_session (together ps) p in
    record {
      written = next-written h made.out ∙ rw (together-append ps p) (sym both.0);
      stands = rw (together-append ps p, both.1) made.stands;
    }
holds (writing r) =
    let h = holds r in
    record { written = append-nil _ ∙ h.written; stands = record { room = omega arith; kept = h.stands.kept; begun = h.stands.begun } }

pub runs-write : RunsWrite
unfolding RunsWrite
runs-write ps w b after state last r room ends =
    let h = holds r in
    next-written h (at-end ends _ h.stands room) ∙ whole-input (together ps)
