-- Which session the program's numbers and buffers stand for, and what a step makes of them.
use Rattle.std.specs.Prelude.{ℕ, ◌<◌, ◌≤◌, ◌≡◌, List, length, take, leb, if◌then◌else◌}
use Rattle.std.proofs.lemmas.List.Edits.{sets}
use Rattle.byte_writer.specs.Written.{WroteAt}
use Rattle.lines.specs.Answers.{kept_as}
use Rattle.lines.specs.Scratch.{line_scratch}
use Rattle.lines.specs.Pieces.{InputSession, InputStep, end_line, piece, first_line, has_feed}
use Rattle.lines.specs.Collecting.{Begun, taken_characters, count_after}
use Rattle.lines.specs.declared.states.Buffers.{Buffers}
use Rattle.lines.specs.declared.states.State.{State}
use Rattle.lines.specs.declared.states.Fed.{Fed}

-- n and the plan buffer are what is kept, the counted characters those of the line that has begun; what is to be written is in its buffer.
pub record Stands (b : Buffers) (state : State) (s : InputSession) : Type 0 where
  pub room : state.filled ≤ length b.out
  pub kept : s.kept ≡ kept_as state.n b.plan
  pub begun : Begun b.line state.count s.begun

-- A step was made: what it writes follows what was to be written, and the state stands for the session afterwards.
pub record Made (step : InputStep) (before : Buffers) (state : State) (after : Buffers) (next : State) : Type 0 where
  pub out : WroteAt state.filled step.out before.out after.out next.filled
  pub stands : Stands after next step.after

-- The same step of every session that the state stands for.
abbrev pub Makes : (step : InputSession → InputStep) (before : Buffers) (state : State) (after : Buffers) (next : State) → Type 0
Makes step before state after next = (s : InputSession) → Stands before state s → Made (step s) before state after next

-- The most that may wait to be written where a line is answered: a buffer's 65,536 bytes less the longest line out, that of 16,384 bytes.
abbrev pub most_filled : ℕ
most_filled = 32757

-- The count once the characters of a piece up to its first line feed joined the line.
abbrev pub joined_count : (p : List ℕ) (before : Buffers) (state : State) → ℕ
joined_count p before state = count_after (length before.line) state.count (length (first_line p))

-- What the line that has begun leaves in the scratch; one that is longer than its buffer is not decoded.
abbrev pub begun_scratch : (line : List ℕ) (count n : ℕ) (plan scratch : List ℕ) → List ℕ
begun_scratch line count n plan scratch =
    if leb count (length line) then line_scratch (take count line) (kept_as n plan) scratch else scratch

-- The line that has begun was ended: for every session that the state stands for it is that session's step.
pub record EndedIs (before : Buffers) (state : State) (after : Buffers) (next : State) : Type 0 where
  pub makes : Makes end_line before state after next
  pub line : after.line ≡ before.line
  pub scratch : after.scratch ≡ begun_scratch before.line state.count state.n before.plan before.scratch

-- Nothing was done.
pub record Idle (before : Buffers) (state : State) (after : Buffers) (next : State) : Type 0 where
  pub same : next ≡ state
  pub buffers : after ≡ before

-- A piece was taken up to its first line feed.
pub record TakenIs (p : List ℕ) (before : Buffers) (state : State) (after : Buffers) (r : Fed) : Type 0 where
  pub taken : r.taken ≡ taken_characters p
  pub counts : r.state.count ≡ (if has_feed p then 0 else joined_count p before state)
  pub line : after.line ≡ sets before.line state.count (first_line p)
  pub scratch :
      after.scratch ≡
      (if has_feed p then begun_scratch after.line (joined_count p before state) state.n before.plan
      before.scratch else before.scratch)

-- A piece was fed: taken up to its first line feed where there is room for what a line gives, else nothing is done. For every
-- session that the state stands for it is the session's step for what was taken.
pub record FedIs (p : List ℕ) (before : Buffers) (state : State) (after : Buffers) (r : Fed) : Type 0 where
  pub takes : state.filled ≤ most_filled → TakenIs p before state after r
  pub full : most_filled < state.filled → (r.taken ≡ 0) × Idle before state after r.state
  pub makes : Makes (λ s. piece s (take r.taken p)) before state after r.state

-- The end of the input: a line that has begun is ended where there is room for what it gives; else nothing is done.
pub record FinishedIs (before : Buffers) (state : State) (after : Buffers) (next : State) : Type 0 where
  pub ends : (state.count ≡ 0 → ⊥) → state.filled ≤ most_filled → EndedIs before state after next
  pub none : state.count ≡ 0 → Idle before state after next
  pub full : most_filled < state.filled → Idle before state after next
