-- What one call, and a list of calls, does to the state that is held.
use Rattle.std.specs.Prelude.{if◌then◌else◌}
use Prim.Native.Nat.{ℕ, zero, suc, ◌≤◌, ◌<◌}
use native.Mathlib.Omega.{arith}
use mathlib.Core.Path.{◌≡◌, refl, sym, ap, ◌∙◌, subst}
use mathlib.Core.Bool.{Bool, true, false}
use mathlib.Core.Logic.{◌⊎◌, inl, inr}
use mathlib.Core.List.{List, [], ◌∷◌, ◌++◌}
use mathlib.Core.Option.{Option, none, some}
use lib.ListN.{length, take, length-append}
use lib.Dec.{leb, ltb}
use borrow.Author.Tests.{leb-true, ltb-true}
use Rattle.definitions.specs.Words.Basics.{Result, ok, refused}
use Rattle.definitions.specs.Calls.Base.{written_over}
use Rattle.definitions.specs.Calls.Queues.{Queue, chassis, fixed_unit, queue_number, other_queue, Frames, State, waiting, with_frames, marked, put_in, Due, first_tried, oldest, due}
use Rattle.definitions.specs.Calls.QueueBytes.{state_over, queue_numbered, put_done, put, frame_from, both_empty, ServeOutcome, serve_due, serve_held, serve}
use Rattle.definitions.specs.Lists.Queues.{QueueCall, put_call, serve_call, QueueMade, made_put, made_serve, QueuesRun, queues_run}
use Rattle.definitions.specs.Claims.Queues.{FramesFit, QueuesFit}
use Rattle.theorems.proofs.InverseFrame.{same_ok}
use Rattle.theorems.proofs.Changes.{over_first}
use Rattle.theorems.proofs.QueueFrames.{passed}
use Rattle.theorems.proofs.QueueStates.{HeldIn, in_held, held-over, held_fits}

-- It is the turn of a queue: it is tried first, or the one that is tried first is empty.
abbrev pub Turn : Queue → State → Type 0
Turn q S = (first_tried S.mark ≡ q) ⊎ (waiting (first_tried S.mark) S ≡ [])

-- What a call changes: a put adds at the end of its queue; a serve takes the oldest of the queue whose turn it is; everything else
-- changes nothing.
pub data Change : State → QueueMade → State → Type 0 where
  put_refused : {S : State} {number why : ℕ} {frame : List ℕ} → Change S (made_put number frame (refused why)) S
  serve_refused : {S : State} {why : ℕ} {out : List ℕ} → Change S (made_serve (refused why) out) S
  found_empty : {S : State} {out : List ℕ} → ((q : Queue) → waiting q S ≡ []) → Change S (made_serve (ok both_empty) out) S
  puts : {S : State} (q : Queue) {frame : List ℕ} {n : ℕ}
      → Change S (made_put (queue_number q) frame (ok n)) (with_frames q (waiting q S ++ (frame ∷ [])) S)
  gives : {S : State} (q : Queue) {later : Frames} {n : ℕ} {out : List ℕ} → waiting q S ≡ take n out ∷ later → Turn q S
      → Change S (made_serve (ok (frame_from q n)) out) (marked q (with_frames q later S))

pub data Changes : State → List QueueMade → State → Type 0 where
  no_call : {S : State} → Changes S [] S
  call : {S T U : State} {m : QueueMade} {ms : List QueueMade} → Change S m T → Changes T ms U → Changes S (m ∷ ms) U

-- ---- put

module _ (q : Queue) (f : List ℕ) (S : State) where
  -- An accepted put, and what it showed.
  pub record Added (T : State) : Type 0 where
    pub low : 1 ≤ length f
    pub high : length f ≤ 1024
    pub room : length (waiting q S) < 16
    pub is : with_frames q (waiting q S ++ (f ∷ [])) S ≡ T

  pub put-added : (T : State) → put_in q f S ≡ ok T → Added T
  unfolding put_in
  put-added T e =
      let one = passed 1 (ltb 0 (length f)) _ e in
      let two = passed 22 (leb (length f) 1024) _ one.1 in
      let three = passed 23 (ltb (length (waiting q S)) 16) _ two.1 in
      record {
        low = ltb-true 0 (length f) one.0;
        high = leb-true (length f) 1024 two.0;
        room = ltb-true (length (waiting q S)) 16 three.0;
        is = same_ok _ _ three.1;
      }

pub fit-more : (fs : Frames) (f : List ℕ) → FramesFit fs → 1 ≤ length f → length f ≤ 1024 → FramesFit (fs ++ (f ∷ []))
fit-more [] f fit low high = (low, high, tt)
fit-more (g ∷ fs) f fit low high = (fit.0, fit.1, fit-more fs f fit.2 low high)

fits-with : (q : Queue) (fs : Frames) (S : State) → QueuesFit S → length fs ≤ 16 → FramesFit fs → QueuesFit (with_frames q fs S)
fits-with chassis fs S fits few fit = elim [ chassis ↦ (few, fit) | fixed_unit ↦ fits fixed_unit ]
fits-with fixed_unit fs S fits few fit = elim [ chassis ↦ fits chassis | fixed_unit ↦ (few, fit) ]

pub fits-added : {q : Queue} {f : List ℕ} {S T : State} → QueuesFit S → Added q f S T → QueuesFit T
fits-added {q} {f} {S} fits a =
    subst QueuesFit a.is
    (fits-with q (waiting q S ++ (f ∷ [])) S fits (simp length-append (omega (arith, a.room)))
    (fit-more (waiting q S) f (fits q).1 a.low a.high))

module _ (b : List ℕ) (S : State) (h : HeldIn b S) where
  -- A call left a buffer that holds a state, changed so.
  pub record Left (m : QueueMade) (after : List ℕ) : Type 0 where
    pub state : State
    pub holds : HeldIn after state
    pub change : Change S m state

  module _ (f : List ℕ) where
    put-left : (q : Queue) (r : Result State) → put_in q f S ≡ r
        → Left (made_put (queue_number q) f (put_done b f r).answer) (put_done b f r).queues
    unfolding put_done
    put-left q (ok T) e =
        let a = put-added q f S T e in record {
          state = T;
          holds = held-over T b (fits-added (held_fits S b h) a) h.long;
          change = subst (Change S (made_put (queue_number q) f (ok (length f)))) a.is (puts q);
        }
    put-left q (refused why) e = record { state = S; holds = h; change = put_refused }

    pub one-put : (number : ℕ) → Left (made_put number f (put b number f).answer) (put b number f).queues
    unfolding put queue_numbered put_done
    one-put zero = rw (in_held b S h) (put-left chassis (put_in chassis f S) refl)
    one-put (suc zero) = rw (in_held b S h) (put-left fixed_unit (put_in fixed_unit f S) refl)
    one-put (suc (suc n)) = record { state = S; holds = h; change = put_refused }

-- ---- serve

-- What is due: the oldest frame of the queue whose turn it is; or nothing.
pub data IsDue (S : State) : Option Due → Type 0 where
  nothing : ((q : Queue) → waiting q S ≡ []) → IsDue S none
  one : (q : Queue) (f : List ℕ) (later : Frames) → waiting q S ≡ f ∷ later → Turn q S
      → IsDue S (some (record { queue = q; frame = f; left = marked q (with_frames q later S) }))

pub is-due : (S : State) → IsDue S (due S)
unfolding due oldest
is-due S =
    let q : Queue = first_tried S.mark in first q refl (waiting q S) refl (waiting (other_queue q) S) refl
  where
    both : (q : Queue) → waiting q S ≡ [] → waiting (other_queue q) S ≡ [] → (p : Queue) → waiting p S ≡ []
    both chassis e e' = elim [ chassis ↦ e | fixed_unit ↦ e' ]
    both fixed_unit e e' = elim [ chassis ↦ e' | fixed_unit ↦ e ]

    first : (q : Queue) → first_tried S.mark ≡ q → (fs : Frames) → waiting q S ≡ fs → (gs : Frames) → waiting (other_queue q) S ≡ gs
        → IsDue S (oldest q S fs (oldest (other_queue q) S gs none))
    first q t (f ∷ later) e gs e' = one q f later e (inl t)
    first q t [] e (g ∷ later) e' = one (other_queue q) g later e' (inr (ap (λ (p : Queue). waiting p S) t ∙ e))
    first q t [] e [] e' = nothing (both q e e')

-- The state without the oldest frame of a queue fits too.
pub fits-left : (q : Queue) (f : List ℕ) (later : Frames) (S : State) → QueuesFit S → waiting q S ≡ f ∷ later
    → QueuesFit (marked q (with_frames q later S))
fits-left q f later S fits e =
    let some : (length (f ∷ later) ≤ 16) × FramesFit (f ∷ later) =
    subst (λ (fs : Frames). (length fs ≤ 16) × FramesFit fs) e (fits q) in
    let rest : QueuesFit (with_frames q later S) = fits-with q later S fits (omega (arith, some.0)) some.1.2 in
    elim [ chassis ↦ rest chassis | fixed_unit ↦ rest fixed_unit ]

module _ (S : State) (b out : List ℕ) (h : HeldIn b S) where
  serve-left : (d : Option Due) → IsDue S d
      → Left b S h (made_serve (serve_due b out d).answer (serve_due b out d).out) (serve_due b out d).queues
  unfolding serve_due
  serve-left none (nothing e) = record { state = S; holds = h; change = found_empty e }
  serve-left (some d) (one q f later e turn) = by-room (leb (length f) (length out)) where
    gave : ServeOutcome
    gave = record {
      answer = ok (frame_from q (length f));
      queues = state_over (marked q (with_frames q later S)) b;
      out = written_over f out;
    }

    by-room : (t : Bool)
        → let o : ServeOutcome = if t then gave else record { answer = refused 9; queues = b; out = out } in
        Left b S h (made_serve o.answer o.out) o.queues
    by-room true = record {
      state = marked q (with_frames q later S);
      holds = held-over (marked q (with_frames q later S)) b (fits-left q f later S (held_fits S b h) e) h.long;
      change = gives q (e ∙ ap (λ (x : List ℕ). x ∷ later) (sym (over_first f out))) turn;
    }
    by-room false = record { state = S; holds = h; change = serve_refused }

  pub one-serve : Left b S h (made_serve (serve b out).answer (serve b out).out) (serve b out).queues
  unfolding serve serve_held
  one-serve = rw (in_held b S h) (serve-left (due S) (is-due S))

-- ---- lists

-- A list of calls left a buffer that holds a state, changed so.
pub record LeftAll (S : State) (r : QueuesRun) : Type 0 where
  pub state : State
  pub holds : HeldIn r.queues state
  pub changes : Changes S r.made state

pub run-left : (calls : List QueueCall) (b : List ℕ) (S : State) → HeldIn b S → LeftAll S (queues_run b calls)
unfolding queues_run
run-left [] b S h = record { state = S; holds = h; changes = no_call }
run-left (put_call number f ∷ calls) b S h =
    let one = one-put b S h f number in
    let rest = run-left calls (put b number f).queues one.state one.holds in
    record { state = rest.state; holds = rest.holds; changes = call one.change rest.changes }
run-left (serve_call out ∷ calls) b S h =
    let one = one-serve S b out h in
    let rest = run-left calls (serve b out).queues one.state one.holds in
    record { state = rest.state; holds = rest.holds; changes = call one.change rest.changes }
