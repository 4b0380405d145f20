-- What is due, and what a serve is once that is known.
use Rattle.std.specs.Prelude.{Option as CodeOption, Some, None}
use Prim.Native.Nat.{ℕ, ◌+◌, ◌≤◌, ◌<◌}
use native.Mathlib.Omega.{arith}
use mathlib.Core.Path.{◌≡◌, refl, sym, ap, ◌∙◌}
use mathlib.Core.List.{List, [], ◌∷◌, ◌++◌}
use mathlib.Core.Option.{Option, none, some}
use lib.ListN.{length, take, drop, get_or, set}
use borrow.Author.Tests.{le-leb, lt-leb}
use Rattle.definitions.specs.Words.Basics.{ok, refused}
use Rattle.definitions.specs.Calls.Base.{written_over}
use Rattle.definitions.specs.Bytes.Good.{AllBytes}
use Rattle.definitions.specs.Calls.Queues.{Queue, chassis, fixed_unit, other_queue, Mark, nobody, last, Frames, State, waiting, with_frames, marked, Due, first_tried, oldest, due}
use Rattle.definitions.specs.Calls.QueueBytes.{start, lengths_of, places_of, queue_of, state_of, mark_byte, state_over, frame_from, both_empty, serve_due, serve_held, serve}
use Rattle.theorems.proofs.QueueFrames.{At, row_at}
use Rattle.theorems.proofs.QueueStates.{held_in, Holds, queue-holds, places-long, mark-same}
use Rattle.expression.specs.Places.{short_at}
use Rattle.queues.specs.Outcomes.{queue_is, ServeAnswered, ServeIs}
use Rattle.queues.specs.Held.{Held, due_from, DueOf, FirstOf, DueIs, HoldsQueued, ServedFrom}
use Rattle.queues.specs.Parts.{HasFirst, FirstTaken}
use Rattle.queues.specs.declared.answers.Queue as code
use Rattle.queues.proofs.Shifting.{length-there}
use Rattle.queues.proofs.Putting.{count-there, part-size, part-frames, given_back}

-- ---- the first of two queues

some-frame : (fs : Frames) → 0 < length fs → (f : List ℕ) × (later : Frames) × (fs ≡ f ∷ later)
some-frame [] h = absurd (omega arith)
some-frame (f ∷ later) h = (f, later, refl)

no-frame : (fs : Frames) → length fs ≤ 0 → fs ≡ []
no-frame [] h = refl
no-frame (f ∷ later) h = absurd (omega arith)

module _ (b : List ℕ) (S : State) (is : state_of b ≡ ok S) (q : Queue) (at : ℕ) (place : at ≡ start q) where
  count : get_or b at 0 ≡ length (waiting q S)
  count = ap (λ (n : ℕ). get_or b n 0) place ∙ count-there b S (held_in b S is) q

  pub has-frame : 0 < get_or b at 0 → (f : List ℕ) × (later : Frames) × (waiting q S ≡ f ∷ later)
  has-frame h = some-frame (waiting q S) (omega (arith, count))

  pub is-empty : get_or b at 0 ≤ 0 → waiting q S ≡ []
  is-empty h = no-frame (waiting q S) (omega (arith, count))

module _ (b : List ℕ) (p q : code.Queue) (at : ℕ) (place : at ≡ start (queue_is p)) where
  pub first-due : 0 < get_or b at 0 → FirstOf b (queue_is p) (queue_is q) (Some p)
  unfolding oldest
  first-due h S is =
      let one = has-frame b S is (queue_is p) at place h in
      (one.0, one.1, one.2, rw one.2)

  module _ (none-there : get_or b at 0 ≤ 0) (at' : ℕ) (place' : at' ≡ start (queue_is q)) where
    pub second-due : 0 < get_or b at' 0 → FirstOf b (queue_is p) (queue_is q) (Some q)
    unfolding oldest
    second-due h S is =
        let one = has-frame b S is (queue_is q) at' place' h in
        (one.0, one.1, one.2, rw (is-empty b S is (queue_is p) at place none-there, one.2))

    pub none-due : get_or b at' 0 ≤ 0 → FirstOf b (queue_is p) (queue_is q) None
    unfolding oldest
    none-due h S is = rw (is-empty b S is (queue_is p) at place none-there, is-empty b S is (queue_is q) at' place' h)

-- ---- whose turn it is

tried-fixed : (m : Mark) → mark_byte m ≡ 1 → first_tried m ≡ fixed_unit
unfolding first_tried
tried-fixed nobody e = absurd (omega arith)
tried-fixed (last chassis) e = refl
tried-fixed (last fixed_unit) e = absurd (omega arith)

tried-chassis : (m : Mark) → (mark_byte m ≡ 1 → ⊥) → first_tried m ≡ chassis
unfolding first_tried
tried-chassis nobody e = refl
tried-chassis (last chassis) e = absurd (e refl)
tried-chassis (last fixed_unit) e = refl

module _ (b : List ℕ) (r : CodeOption code.Queue) where
  by_turn : (S : State) (q : Queue) → first_tried S.mark ≡ q
      → DueOf S r (oldest q S (waiting q S) (oldest (other_queue q) S (waiting (other_queue q) S) none)) → DueOf S r (due S)
  unfolding due
  by_turn S q e h = rw e h

  mark-is : (S : State) → state_of b ≡ ok S → mark_byte S.mark ≡ get_or b 0 0
  mark-is S is = mark-same (get_or b 0 0) S.mark (held_in b S is).mark

  pub fixed-turn : get_or b 0 0 ≡ 1 → FirstOf b fixed_unit chassis r → DueIs b r
  fixed-turn e h S is = by_turn S fixed_unit (tried-fixed S.mark (mark-is S is ∙ e)) (h S is)

  pub chassis-turn : (get_or b 0 0 ≡ 1 → ⊥) → FirstOf b chassis fixed_unit r → DueIs b r
  chassis-turn e h S is = by_turn S chassis (tried-chassis S.mark (λ k. e (sym (mark-is S is) ∙ k))) (h S is)

-- ---- a frame is served

module _ (part : List ℕ) (f : List ℕ) (later : Frames) (long : length part ≡ 16417) (is : queue_of part ≡ ok (f ∷ later)) where
  holds : Holds part (f ∷ later)
  holds = queue-holds part long (f ∷ later) is

  pub first-at : At (lengths_of part) (places_of part) 0 f
  first-at = row_at holds.row (omega (arith, holds.few, places-long part long)) 0 (omega arith)

  pub first-size : short_at part 1 ≡ length f
  first-size = sym (length-there part 0 (omega arith)) ∙ first-at.size

module _ (b : List ℕ) (q : Queue) (at n : ℕ) (place : at ≡ start q) (size : n ≡ 16417) where
  module _ (S : State) (f : List ℕ) (later : Frames) (is : state_of b ≡ ok S) (first : waiting q S ≡ f ∷ later) where
    frames : queue_of (take n (drop at b)) ≡ ok (f ∷ later)
    frames = part-frames b q at n place size S (held_in b S is) ∙ ap (λ (fs : Frames). ok fs) first

    pub part-first : HasFirst (take n (drop at b))
    part-first = record { long = part-size b q at n place size S (held_in b S is); first = f; later = later; holds = frames }

    frame-size : short_at (take n (drop at b)) 1 ≡ length f
    frame-size = first-size (take n (drop at b)) f later (part-size b q at n place size S (held_in b S is)) frames

    frame-bytes : take (length f) (drop 33 (take n (drop at b))) ≡ f
    frame-bytes = (first-at (take n (drop at b)) f later (part-size b q at n place size S (held_in b S is)) frames).bytes

    frame-high : length f ≤ 1024
    frame-high = (first-at (take n (drop at b)) f later (part-size b q at n place size S (held_in b S is)) frames).high

  module _ (h : HoldsQueued b q) (k : ℕ) (length-is : k ≡ short_at (take n (drop at b)) 1) where
    pub frame-within : 33 + k ≤ length (take n (drop at b))
    frame-within =
        omega (
          arith,
          frame-size h.state h.frame h.later h.held h.first,
          frame-high h.state h.frame h.later h.held h.first,
          part-size b q at n place size h.state (held_in b h.state h.held),
        )

    module _ (out : List ℕ) (S : State) (f : List ℕ) (later : Frames) (is : state_of b ≡ ok S) (first : waiting q S ≡ f ∷ later) where
      k-is : length f ≡ k
      k-is = sym (frame-size S f later is first) ∙ sym length-is

      pub out-short : length out < k → serve_due b out (some (due_from q f later S)) ≡ record { answer = refused 9; queues = b; out = out }
      unfolding serve_due
      out-short short = rw (lt-leb (length f) (length out) (omega (arith, k-is))) refl

      pub frame-served : k ≤ length out → AllBytes b → (out_after rest : List ℕ) (mark : ℕ) → mark ≡ mark_byte (last q)
          → out_after ≡ take k (drop 33 (take n (drop at b))) ++ drop k out → FirstTaken (take n (drop at b)) rest
          → serve_due b out (some (due_from q f later S))
          ≡ record { answer = ok (frame_from q k); queues = set (take at b ++ (rest ++ drop n (drop at b))) 0 mark; out = out_after }
      unfolding serve_due written_over state_over
      frame-served room bytes out_after rest mark marks copied left =
          let after : state_over (with_frames q later S) b ≡ take at b ++ (rest ++ drop n (drop at b)) =
          given_back b q at n place size S (held_in b S is) bytes later rest (left f later (frames S f later is first)) in
          let gave : f ++ drop (length f) out ≡ out_after =
          ap (λ (l : List ℕ). l ++ drop (length f) out) (sym (frame-bytes S f later is first))
          ∙ ap (λ (m : ℕ). take m (drop 33 (take n (drop at b))) ++ drop m out) k-is ∙ sym copied in
          let written : state_over (marked q (with_frames q later S)) b ≡ set (take at b ++ (rest ++ drop n (drop at b))) 0 mark =
          ap (λ (m : ℕ). set (state_over (with_frames q later S) b) 0 m) (sym marks) ∙ ap (λ (l : List ℕ). set l 0 mark) after in
          rw (le-leb (length f) (length out) (omega (arith, k-is)))
          (λ i. record { answer = ok (frame_from q (k-is i)); queues = written i; out = gave i })

-- ---- serve

module _ (b out : List ℕ) where
  pub serve-unheld : state_of b ≡ refused 10 → serve b out ≡ record { answer = refused 10; queues = b; out = out }
  unfolding serve serve_held
  serve-unheld e = rw e refl

  module _ (h : Held b) (d : Option Due) (is : due h.0 ≡ d) where
    pub serve_is : serve b out ≡ serve_due b out d
    unfolding serve serve_held
    serve_is = rw h.1 (ap (serve_due b out) is)

  pub serve-nothing : (h : Held b) → DueIs b None → serve b out ≡ record { answer = ok both_empty; queues = b; out = out }
  unfolding serve_due
  serve-nothing h nothing = serve_is h none (nothing h.0 h.1)

  module _ (h : Held b) (q : code.Queue) (from : DueIs b (Some q)) where
    pub holds_frame : HoldsQueued b (queue_is q)
    holds_frame = let one = from h.0 h.1 in record { state = h.0; frame = one.0; later = one.1; held = h.1; first = one.2 }

    pub serve-one : (after out_after : List ℕ) (r : ServeAnswered) → ServedFrom b (queue_is q) out after out_after r
        → ServeIs (serve b out) after out_after r
    serve-one after out_after r served =
        let one = from h.0 h.1 in
        serve_is h (some (due_from (queue_is q) one.0 one.1 h.0)) one.3 ∙ served h.0 one.0 one.1 h.1 one.2
