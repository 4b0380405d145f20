-- A run of the program: pieces are fed, what waits is written out now and then, and the input ends.
use Rattle.std.specs.Prelude.{ℕ, ◌≤◌, ◌≡◌, List, [], ◌∷◌, ◌++◌, take}
use Rattle.definitions.specs.Lists.Program.{output}
use Rattle.lines.specs.Pieces.{piece, fresh_session}
use Rattle.lines.specs.declared.states.Buffers.{Buffers}
use Rattle.lines.specs.declared.states.State.{State}
use Rattle.lines.specs.Sessions.{Stands, Makes, most_filled, FinishedIs}

-- The input that pieces make up.
unfoldable pub together : List (List ℕ) → List ℕ
together [] = []
together (p ∷ ps) = p ++ together ps

-- What a run has come to: the pieces that were fed, what was written out, the buffers and the state. Each step is what the
-- contract of its function says.
pub data Reached : (fed : List (List ℕ)) (written : List ℕ) (b : Buffers) (state : State) → Type 0 where
  start : {b : Buffers} {state : State} → state.filled ≡ 0 → Stands b state fresh_session → Reached [] [] b state
  feeding : {ps : List (List ℕ)} {w : List ℕ} {b after : Buffers} {state next : State} (p : List ℕ)
      → Reached ps w b state → Makes (λ s. piece s p) b state after next → Reached (ps ++ (p ∷ [])) w after next
  writing : {ps : List (List ℕ)} {w : List ℕ} {b : Buffers} {state : State}
      → Reached ps w b state → Reached ps (w ++ take state.filled b.out) b (record { n = state.n; count = state.count; filled = 0 })

-- However the input is cut, and whenever what waits is written out: with what waits at the end, all that was written is
-- what the program writes for the input.
unfoldable pub RunsWrite : Type 0
RunsWrite =
    (ps : List (List ℕ)) (w : List ℕ) (b after : Buffers) (state last : State)
    → Reached ps w b state → state.filled ≤ most_filled → FinishedIs b state after last
    → w ++ take last.filled after.out ≡ output (together ps)
