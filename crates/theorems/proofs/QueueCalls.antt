-- What one call found, gave and left, on any buffer; a refusal has one of the call's own numbers and gives back what it was given.
use Rattle.std.specs.Prelude.{if◌then◌else◌}
use Prim.Native.Nat.{ℕ, zero, suc}
use native.Mathlib.Omega.{arith}
use mathlib.Core.Path.{◌≡◌, refl, sym, ap, ◌∙◌, subst}
use mathlib.Core.Bool.{Bool, true, false}
use mathlib.Core.Logic.{inl, inr}
use mathlib.Core.List.{List, [], ◌∷◌}
use mathlib.Core.Option.{Option, none, some}
use lib.ListN.{length, drop, get_or}
use lib.Dec.{leb, ltb, eqb}
use borrow.Author.Tests.{leb-true}
use Rattle.definitions.specs.Words.Basics.{Result, ok, refused, ◌>>=◌, ◌>>◌, require, any}
use Rattle.definitions.specs.Calls.Base.{written_over}
use Rattle.definitions.specs.Calls.Queues.{Queue, chassis, fixed_unit, queue_number, other_queue, State, waiting, with_frames, marked, put_in, Due, first_tried, due}
use Rattle.definitions.specs.Calls.QueueBytes.{part_of, lengths_of, places_of, short, is_length, mark_of, frames_of, queue_of, state_of, state_over, queue_numbered, PutOutcome, put_done, put, Served, frame_from, both_empty, ServeOutcome, serve_due, serve_held, serve}
use Rattle.definitions.specs.Lists.Queues.{waiting_of, waiting_in}
use Rattle.definitions.specs.Claims.Calls.{put_refusals, serve_refusals, RefusedBy}
use Rattle.definitions.specs.Claims.Queues.{FramesFit, PutAdded, PutAdds, ServeTook, ServeTakes, QueuesKept, QueueLengths}
use Rattle.theorems.proofs.Changes.{over-same, over_first}
use Rattle.theorems.proofs.QueueStates.{held_in, in_held, held-over, held_fits}
use Rattle.theorems.proofs.QueueChanges.{Turn, put-added, fits-added, fits-left, IsDue, nothing, one, is-due}
use Rattle.theorems.proofs.QueueFairness.{not-other}

-- ---- refusals

module _ (numbers : List ℕ) where
  -- One of these numbers.
  abbrev In : ℕ → Type 0
  In number = any (eqb number) numbers ≡ true

  check-by : {B : Type 0} (number : ℕ) (test : Bool) (next : Result B) → In number → RefusedBy numbers next
      → RefusedBy numbers (require number test >> next)
  check-by number true next p h = h
  check-by number false next p h = p

  then_by : {A B : Type 0} (first : Result A) (next : A → Result B) → RefusedBy numbers first → ((a : A) → RefusedBy numbers (next a))
      → RefusedBy numbers (first >>= next)
  then_by (ok a) next h k = k a
  then_by (refused number) next h k = h

  module _ (p10 : In 10) where
    frames-by : (n : ℕ) (lengths places : List ℕ) → RefusedBy numbers (frames_of n lengths places)
    unfolding frames_of
    frames-by zero lengths places = tt
    frames-by (suc n) lengths places =
        check-by 10 (is_length (short lengths)) _ p10
        (then_by (frames_of n (drop 2 lengths) (drop 1024 places)) _ (frames-by n _ _) (λ later. tt))

    queue-by : (part : List ℕ) → RefusedBy numbers (queue_of part)
    unfolding queue_of
    queue-by part = check-by 10 (leb (get_or part 0 0) 16) _ p10 (frames-by (get_or part 0 0) (lengths_of part) (places_of part))

    mark-by : (n : ℕ) → RefusedBy numbers (mark_of n)
    unfolding mark_of
    mark-by zero = tt
    mark-by (suc zero) = tt
    mark-by (suc (suc zero)) = tt
    mark-by (suc (suc (suc n))) = p10

    state-by : (b : List ℕ) → RefusedBy numbers (state_of b)
    unfolding state_of
    state-by b =
        check-by 10 (eqb (length b) 32835) _ p10
        (then_by (mark_of (get_or b 0 0)) _ (mark-by _) (λ mark.
        then_by (queue_of (part_of chassis b)) _ (queue-by _) (λ first.
        then_by (queue_of (part_of fixed_unit b)) _ (queue-by _) (λ second. tt))))

-- ---- put

-- What is said of a put by its answer.
abbrev PutBy : (b : List ℕ) (number : ℕ) (f : List ℕ) → PutOutcome → Result ℕ → Type 0
PutBy b number f o (ok n) = PutAdded b number f n o
PutBy b number f o (refused why) = (o.queues ≡ b) × RefusedBy {A = ℕ} put_refusals (refused why)

module _ (b f : List ℕ) where
  added-by : (q : Queue) (S : State) → state_of b ≡ ok S → (r : Result State) → put_in q f S ≡ r
      → RefusedBy put_refusals r → PutBy b (queue_number q) f (put_done b f r) (put_done b f r).answer
  unfolding put_done
  added-by q S is (ok T) e own =
      let more = put-added q f S T e in
      let h = held_in b S is in record {
        queue = q;
        state = S;
        numbered = refl;
        holds = is;
        not_empty = more.low;
        not_long = more.high;
        not_full = more.room;
        size = refl;
        leaves = in_held _ T (held-over T b (fits-added (held_fits S b h) more) h.long) ∙ ap (λ (S : State). ok S) (sym more.is);
      }
  added-by q S is (refused why) e own = (refl, own)

  put-in-by : (q : Queue) (S : State) → RefusedBy put_refusals (put_in q f S)
  unfolding put_in put_refusals any
  put-in-by q S =
      check-by put_refusals 1 (ltb 0 (length f)) _ refl
      (check-by put_refusals 22 (leb (length f) 1024) _ refl
      (check-by put_refusals 23 (ltb (length (waiting q S)) 16) _ refl tt))

  added-in : (q : Queue) (r : Result State) → state_of b ≡ r → RefusedBy put_refusals r
      → PutBy b (queue_number q) f (put_done b f (r >>= put_in q f)) (put_done b f (r >>= put_in q f)).answer
  unfolding put_done
  added-in q (ok S) is own = added-by q S is (put_in q f S) refl (put-in-by q S)
  added-in q (refused why) is own = (refl, own)

  put-by : (number : ℕ) → PutBy b number f (put b number f) (put b number f).answer
  unfolding put queue_numbered put_done put_refusals any
  put-by zero = added-in chassis (state_of b) refl (state-by put_refusals refl b)
  put-by (suc zero) = added-in fixed_unit (state_of b) refl (state-by put_refusals refl b)
  put-by (suc (suc n)) = (refl, refl)

pub put-adds-by : PutAdds
put-adds-by b number f n a = subst (PutBy b number f (put b number f)) a (put-by b f number)

pub put-refusals : (queues : List ℕ) (number : ℕ) (frame : List ℕ) → RefusedBy put_refusals (put queues number frame).answer
put-refusals b number f = own (put b number f).answer (put-by b f number) where
  own : (r : Result ℕ) → PutBy b number f (put b number f) r → RefusedBy put_refusals r
  own (ok n) h = tt
  own (refused why) h = h.1

-- ---- serve

-- What is said of a serve by its answer.
abbrev ServeBy : (b out : List ℕ) → ServeOutcome → Result Served → Type 0
ServeBy b out o (ok (frame_from q n)) = ServeTook b out q n o
ServeBy b out o (ok both_empty) = (o.queues ≡ b) × (o.out ≡ out) × ((q : Queue) → waiting_in q b ≡ [])
ServeBy b out o (refused why) = (o.queues ≡ b) × (o.out ≡ out) × RefusedBy {A = Served} serve_refusals (refused why)

module _ (b out : List ℕ) (S : State) (is : state_of b ≡ ok S) where
  held_none : ((q : Queue) → waiting q S ≡ []) → (q : Queue) → waiting_in q b ≡ []
  unfolding waiting_in waiting_of
  held_none e q = ap (waiting_of q) is ∙ e q

  -- The other queue is empty if it was to be tried first.
  other-waits : (q : Queue) → Turn q S → first_tried S.mark ≡ other_queue q → waiting (other_queue q) S ≡ []
  other-waits q (inl own) other = absurd (not-other q (sym own ∙ other))
  other-waits q (inr empty) other = sym (ap (λ (p : Queue). waiting p S) other) ∙ empty

  took_by : (d : Option Due) → IsDue S d → ServeBy b out (serve_due b out d) (serve_due b out d).answer
  unfolding serve_due serve_refusals any
  took_by none (nothing e) = (refl, refl, held_none e)
  took_by (some d) (one q f later e turn) = by-room (leb (length f) (length out)) refl where
    left : State
    left = marked q (with_frames q later S)

    gave : ServeOutcome
    gave = record { answer = ok (frame_from q (length f)); queues = state_over left b; out = written_over f out }

    by-room : (t : Bool) → leb (length f) (length out) ≡ t
        → let o : ServeOutcome = if t then gave else record { answer = refused 9; queues = b; out = out } in
        ServeBy b out o o.answer
    by-room true room =
        let h = held_in b S is in record {
          state = S;
          frame = f;
          later = later;
          holds = is;
          oldest = e;
          turn = other-waits q turn;
          size = refl;
          written = over_first f out;
          others = over-same f out (leb-true (length f) (length out) room);
          leaves = in_held _ left (held-over left b (fits-left q f later S (held_fits S b h) e) h.long);
        }
    by-room false room = (refl, refl, refl)

module _ (b out : List ℕ) where
  held_by : (r : Result State) → state_of b ≡ r → RefusedBy serve_refusals r
      → ServeBy b out (serve_held b out r) (serve_held b out r).answer
  unfolding serve_held
  held_by (ok S) is own = took_by b out S is (due S) (is-due S)
  held_by (refused why) is own = (refl, refl, own)

  serve-by : ServeBy b out (serve b out) (serve b out).answer
  unfolding serve serve_refusals any
  serve-by = held_by (state_of b) refl (state-by serve_refusals refl b)

pub serve-takes-by : ServeTakes
serve-takes-by b out q n a = subst (ServeBy b out (serve b out)) a (serve-by b out)

pub serve-refusals : (queues out : List ℕ) → RefusedBy serve_refusals (serve queues out).answer
serve-refusals b out = own (serve b out).answer (serve-by b out) where
  own : (r : Result Served) → ServeBy b out (serve b out) r → RefusedBy serve_refusals r
  own (ok a) h = tt
  own (refused why) h = h.2

-- ---- both

pub kept_by : QueuesKept
kept_by = (
  λ b number f why a. (subst (PutBy b number f (put b number f)) a (put-by b f number)).0,
  λ b out why a. let h = subst (ServeBy b out (serve b out)) a (serve-by b out) in (h.0, h.1),
  λ b out a. subst (ServeBy b out (serve b out)) a (serve-by b out),
)

-- Only frames of 1 to 1,024 bytes come in, and only such are held.
pub lengths-by : QueueLengths
lengths-by = (
  λ b number f n a. let h = put-adds-by b number f n a in (omega (arith, h.size, h.not_empty), omega (arith, h.size, h.not_long)),
  λ b out q n a.
      let h = serve-takes-by b out q n a in
      let fit : FramesFit (h.frame ∷ h.later) =
      subst FramesFit h.oldest (held_fits h.state b (held_in b h.state h.holds) q).1 in
      (omega (arith, h.size, fit.0), omega (arith, h.size, fit.1)),
)
