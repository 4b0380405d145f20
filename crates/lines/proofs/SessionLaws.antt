-- A session's steps, and what they make of the numbers and buffers that stand for it.
mod PieceLaws
use Rattle.std.specs.Prelude.{Ok, Err}
use Prim.Native.Nat.{ℕ, ◌+◌, ◌*◌, ◌≤◌, ◌<◌}
use native.Mathlib.Omega.{arith}
use mathlib.Core.Path.{◌≡◌, refl, sym, ap, ◌∙◌}
use mathlib.Core.Bool.{Bool, true, false}
use mathlib.Core.List.{List, [], ◌∷◌}
use lib.ListN.{length, take, replicate, length-append, length-replicate}
use lib.Seq.{length-take-le}
use lib.Dec.{leb, eqb}
use borrow.Author.Tests.{leb-true, leb-false, eqb-true, eqb-false}
use Rattle.definitions.specs.Lists.Program.{Kept, line_outcome, written_line, fresh_plan}
use Rattle.terms.specs.Refusals.{number_of}
use Rattle.terms.specs.declared.refusals.Refusal.TheVariants.{NotHexadecimal}
use Rattle.lines.specs.declared.answers.LineGiven.TheVariants.{Plan, Logical}
use Rattle.lines.specs.declared.states.Buffers.{Buffers}
use Rattle.lines.specs.declared.states.State.{State}
use Rattle.byte_writer.specs.Written.{WroteAt}
use Rattle.lines.specs.Answers.{LineAnswered, answer_bytes, plan_length, kept_as, length_after, AnswerIs}
use Rattle.lines.specs.Pieces.{InputSession, end_line, piece, input_end, fresh_session, first_line, has_feed}
use Rattle.lines.specs.Collecting.{Begun, CollectedIs}
use Rattle.lines.specs.Sessions.{Stands, Makes, most_filled, EndedIs, TakenIs, FedIs, FinishedIs}
use Rattle.lines.specs.declared.states.Fed.{Fed}
use Rattle.lines.specs.declared.collecting.CollectedPiece.{CollectedPiece}
use Rattle.hexadecimal.proofs.DecodeLaws.{long-line}
use Rattle.hexadecimal.proofs.EncodeLaws.{length_digits, wrote_nothing}
use Rattle.lines.proofs.SessionLaws.PieceLaws.{joined, stopped, upto}
use Rattle.lines.proofs.LineLaws.{refused-line, bad-line}

-- Buffers with this in them.
abbrev pub lent : (out plan scratch line : List ℕ) → Buffers
lent out plan scratch line = record { out = out; plan = plan; scratch = scratch; line = line }

abbrev state_of : (n count filled : ℕ) → State
state_of n count filled = record { n = n; count = count; filled = filled }

-- ---- no line has begun

none-begun : (line : List ℕ) → Begun line 0 []
none-begun line = record { held = λ h. refl; long = λ h. absurd (omega arith) }

pub stands-fresh : (b : Buffers) → b.plan ≡ replicate 16384 0 → Stands b (state_of 0 0 0) fresh_session
unfolding fresh_session fresh_plan
stands-fresh b e = record { room = omega arith; kept = rw e refl; begun = none-begun b.line }

-- ---- the line that has begun

-- Whatever is counted, some line has begun: so every state whose waiting bytes fit their buffer stands for a session.
some-line : (line : List ℕ) (count : ℕ) (held : Bool) → leb count (length line) ≡ held → (begun : List ℕ) × Begun line count begun
some-line line count true e =
    (take count line, record { held = λ h. refl; long = λ h. absurd (omega (arith, leb-true count (length line) e)) })
some-line line count false e = (
  replicate (length line + 1) 0,
  record { held = λ h. absurd (omega (arith, leb-false count (length line) e)); long = λ h. rw length-replicate (omega arith) },
)

pub some-session : (b : Buffers) (state : State) → state.filled ≤ length b.out → (s : InputSession) × Stands b state s
some-session b state h =
    let some = some-line b.line state.count (leb state.count (length b.line)) refl in
    (record { kept = kept_as state.n b.plan; begun = some.0 }, record { room = h; kept = refl; begun = some.1 })

pub too_long : {line begun : List ℕ} {count : ℕ} (b : Begun line count begun) (n : ℕ) (plan : List ℕ) → length line ≡ 32768
    → length line < count
    → AnswerIs (line_outcome begun (kept_as n plan)) n plan (Err NotHexadecimal)
too_long {begun = begun} b n plan size h =
    rw (← bad-line begun (kept_as n plan) (long-line begun (omega (arith, b.long h)))) (refused-line n plan NotHexadecimal)

-- What a line gives fits the room that is asked for it.
pub written-fits : (plan : List ℕ) (answer : LineAnswered) → plan_length answer ≤ length plan
    → length (written_line (answer_bytes plan answer)) ≤ 2 * length plan + 11
unfolding written_line
written-fits plan (Ok (Plan n)) h = simp length-append (omega (arith, length_digits (0 ∷ take n plan), length-take-le n plan h))
written-fits plan (Ok (Logical high low names side)) h = simp length-append
    (omega (arith, length_digits (0 ∷ high ∷ low ∷ names ∷ side ∷ [])))
written-fits plan (Err why) h = simp length-append (omega (arith, length_digits (number_of why ∷ [])))

-- What it gives is written, and none has begun.
pub line-ended : {out plan line after plan-after : List ℕ} (scratch scratch_after : List ℕ) {state : State} {filled : ℕ}
    (answer : LineAnswered)
    → ((begun : List ℕ) → Begun line state.count begun
    → AnswerIs (line_outcome begun (kept_as state.n plan)) state.n plan-after answer)
    → WroteAt state.filled (written_line (answer_bytes plan-after answer)) out after filled
    → filled ≤ length after
    → Makes end_line (lent out plan scratch line) state (lent after plan-after scratch_after line)
    (state_of (length_after state.n answer) 0 filled)
unfolding end_line
line-ended {line = line} scratch scratch_after answer gives wrote room s stands =
    let is = gives s.begun stands.begun in
    record {
      out = rw (stands.kept, ← is.answer) wrote;
      stands = record { room = room; kept = rw stands.kept (sym is.kept); begun = none-begun line };
    }

begun-some : {line : List ℕ} {count : ℕ} (held : Bool) → leb count (length line) ≡ held → Begun line count [] → count ≡ 0
begun-some {line} {count} true e b =
    let h : count ≤ length line = leb-true count (length line) e in
    omega (arith, length-take-le count line h, ap length (b.held h))
begun-some {line} {count} false e b = absurd (omega (arith, b.long (leb-false count (length line) e)))

-- After a line's end none has begun.
ended-none : {before after : Buffers} {state next : State} → EndedIs before state after next → state.filled ≤ length before.out
    → next.count ≡ 0
unfolding end_line
ended-none {before} {after} {state} {next} ended h =
    let some = some-session before state h in
    begun-some (leb next.count (length after.line)) refl (ended.makes some.0 some.1).stands.begun

-- ---- feeding

-- Nothing is taken where there is no room.
pub fed-none : (p : List ℕ) (b : Buffers) (state : State) → most_filled < state.filled
    → FedIs p b state b (record { taken = 0; state = state })
unfolding piece
fed-none p b state h = record {
  takes = λ k. absurd (omega arith);
  full = λ k. (refl, record { same = refl; buffers = refl });
  makes = λ s stands. record { out = wrote_nothing state.filled b.out; stands = stands };
}

module _ {p line after : List ℕ} {r : CollectedPiece} (state : State) (out plan scratch : List ℕ)
    (is : CollectedIs p line state.count after r)
    (below : state.filled ≤ most_filled) where
  -- The state once the characters joined the line.
  abbrev joined_state : State
  joined_state = state_of state.n r.count state.filled

  joined-stands : (s : InputSession) → Stands (lent out plan scratch line) state s
      → Stands (lent out plan scratch after) joined_state (joined s (first_line p))
  joined-stands s stands = record { room = stands.room; kept = stands.kept; begun = is.line s.begun stands.begun }

  taken-steps : (feed : Bool) → r.ended ≡ feed → (s : InputSession) → piece s (take r.taken p) ≡ stopped feed (joined s (first_line p))
  taken-steps feed e s = rw (is.taken, ← e, is.ended) ((upto p).steps s)

  pub fed-ended : {left : Buffers} {next : State} → r.ended ≡ true → EndedIs (lent out plan scratch after) joined_state left next
      → state.filled ≤ length out → FedIs p (lent out plan scratch line) state left (record { taken = r.taken; state = next })
  fed-ended e ended room =
      let feed : has_feed p ≡ true = sym is.ended ∙ e in
      record {
        takes = λ h. record {
          taken = is.taken;
          counts = rw feed (ended-none ended room);
          line = ended.line ∙ is.buffer;
          scratch = rw (feed, ended.line, ← is.counts) ended.scratch;
        };
        full = λ h. absurd (omega arith);
        makes = λ s stands.
            let made = ended.makes (joined s (first_line p)) (joined-stands s stands) in
            rw (taken-steps true e s) (record { out = made.out; stands = made.stands });
      }

  pub fed-open : r.ended ≡ false
      → FedIs p (lent out plan scratch line) state (lent out plan scratch after) (record { taken = r.taken; state = joined_state })
  fed-open e =
      let feed : has_feed p ≡ false = sym is.ended ∙ e in
      record {
        takes = λ h. record { taken = is.taken; counts = rw feed is.counts; line = is.buffer; scratch = rw feed refl };
        full = λ h. absurd (omega arith);
        makes =
            λ s stands. rw (taken-steps false e s) (record { out = wrote_nothing state.filled out; stands = joined-stands s stands });
      }

-- What is taken is a part of the piece, and some of it where there is any.
pub taken-within : {p : List ℕ} {before after : Buffers} {state : State} {r : Fed} → TakenIs p before state after r → r.taken ≤ length p
taken-within {p} t = rw t.taken (upto p).within

pub taken-some : {p : List ℕ} {before after : Buffers} {state : State} {r : Fed} → TakenIs p before state after r → 0 < length p
    → 0 < r.taken
taken-some {p} t h = rw t.taken ((upto p).some h)

-- What waits fits its buffer afterwards, too.
pub fed-room : {p : List ℕ} {before after : Buffers} {state : State} {r : Fed} → FedIs p before state after r
    → state.filled ≤ length before.out
    → r.state.filled ≤ length after.out
fed-room {before = before} {state = state} is h = let some = some-session before state h in (is.makes some.0 some.1).stands.room

-- ---- the end of the input

-- Where the count is 0 no line has begun, else one has.
end_none : {line : List ℕ} {count : ℕ} (kept : Kept) {begun : List ℕ} → Begun line count begun → count ≡ 0 → input_end kept begun ≡ []
unfolding input_end
end_none {line} kept b e = ap (input_end kept) (sym (b.held (omega arith)) ∙ ap (λ (k : ℕ). take k line) e)

end-some : {line : List ℕ} {count : ℕ} (kept : Kept) (begun : List ℕ) → Begun line count begun → (count ≡ 0 → ⊥)
    → input_end kept begun ≡ (end_line (record { kept = kept; begun = begun })).out
unfolding input_end
end-some {line} {count} kept [] b h = absurd (h (begun-some (leb count (length line)) refl b))
end-some kept (c ∷ begun) b h = refl

-- Nothing is done where no line has begun, or where there is no room.
pub finished-none : (b : Buffers) (state : State) → state.count ≡ 0 → FinishedIs b state b state
finished-none b state e = record {
  ends = λ h k. absurd (h e);
  none = λ h. record { same = refl; buffers = refl };
  full = λ h. record { same = refl; buffers = refl };
}

pub finished-full : (b : Buffers) (state : State) → most_filled < state.filled → FinishedIs b state b state
finished-full b state h = record {
  ends = λ k l. absurd (omega arith);
  none = λ k. record { same = refl; buffers = refl };
  full = λ k. record { same = refl; buffers = refl };
}

finished-fits : {before after : Buffers} {state next : State} (none : Bool) → eqb state.count 0 ≡ none → FinishedIs before state after next
    → state.filled ≤ most_filled
    → state.filled ≤ length before.out → next.filled ≤ length after.out
finished-fits {state = state} true e is room h = let idle = is.none (eqb-true state.count 0 e) in rw (idle.same, idle.buffers) h
finished-fits {before} {state = state} false e is room h =
    let some = some-session before state h in
    ((is.ends (eqb-false state.count 0 e) room).makes some.0 some.1).stands.room

pub finished-room : {before after : Buffers} {state next : State} → FinishedIs before state after next → state.filled ≤ most_filled
    → state.filled ≤ length before.out
    → next.filled ≤ length after.out
finished-room {before} {after} {state} {next} is room h = finished-fits (eqb state.count 0) refl is room h

-- What is written at the end is what the end of the input gives.
ends-write : {b after : Buffers} {state last : State} (none : Bool) → eqb state.count 0 ≡ none → FinishedIs b state after last
    → (s : InputSession) → Stands b state s
    → state.filled ≤ most_filled → WroteAt state.filled (input_end s.kept s.begun) b.out after.out last.filled
ends-write {b} {after} {state} true e is s stands room =
    let zero : state.count ≡ 0 = eqb-true state.count 0 e in
    let idle = is.none zero in
    rw (idle.same, idle.buffers, end_none s.kept stands.begun zero) (wrote_nothing state.filled b.out)
ends-write {state = state} false e is s stands room =
    let some : (state.count ≡ 0 → ⊥) = eqb-false state.count 0 e in
    rw (end-some s.kept s.begun stands.begun some) ((is.ends some room).makes s stands).out

pub at-end : {b after : Buffers} {state last : State} → FinishedIs b state after last → (s : InputSession) → Stands b state s
    → state.filled ≤ most_filled
    → WroteAt state.filled (input_end s.kept s.begun) b.out after.out last.filled
at-end {state = state} is s stands room = ends-write (eqb state.count 0) refl is s stands room
