-- Calls go by the state that is held, and by no other byte of the buffer: a list of calls on bytes is the same list on states.
use Rattle.std.specs.Prelude.{if◌then◌else◌}
use Prim.Native.Nat.{ℕ, zero, suc}
use mathlib.Core.Path.{◌≡◌, refl, sym, ap₂, ◌∙◌}
use mathlib.Core.Bool.{Bool, true, false}
use mathlib.Core.List.{List, [], ◌∷◌}
use mathlib.Core.Option.{Option, none, some}
use lib.ListN.{length}
use lib.Dec.{leb}
use Rattle.definitions.specs.Words.Basics.{Result, ok, refused, map_result, ◌>>=◌}
use Rattle.definitions.specs.Calls.Base.{written_over}
use Rattle.definitions.specs.Calls.Queues.{Queue, chassis, fixed_unit, State, put_in, Due, due}
use Rattle.definitions.specs.Calls.QueueBytes.{state_over, queue_numbered, put_done, put, Served, frame_from, both_empty, ServeOutcome, serve_due, serve_held, serve}
use Rattle.definitions.specs.Lists.Queues.{QueueCall, put_call, serve_call, QueueMade, made_put, made_serve, queues_run}
use Rattle.definitions.specs.Claims.Queues.{FreeBytes}
use Rattle.theorems.proofs.QueueStates.{HeldIn, held_in, in_held, held-over, held_fits}
use Rattle.theorems.proofs.QueueChanges.{put-added, fits-added, fits-left, IsDue, nothing, one, is-due}

-- ---- calls on states

-- The state after a put, or why it is refused.
abbrev pub state_put : State → (number : ℕ) → (frame : List ℕ) → Result State
state_put S number f = queue_numbered number >>= (λ q. put_in q f S)

-- The new state, or the old one.
abbrev pub or_old : State → Result State → State
or_old S (ok T) = T
or_old S (refused why) = S

-- What a serve answers and leaves, by what is due.
pub record Step : Type 0 where
  pub answer : Result Served
  pub out : List ℕ
  pub state : State

abbrev pub state_serve : State → (out : List ℕ) → Option Due → Step
state_serve S out none = record { answer = ok both_empty; out = out; state = S }
state_serve S out (some d) =
    if leb (length d.frame) (length out)
    then record { answer = ok (frame_from d.queue (length d.frame)); out = written_over d.frame out; state = d.left }
    else record { answer = refused 9; out = out; state = S }

-- The calls of a list as they are made, and the state at its end.
pub record StateRun : Type 0 where
  pub made : List QueueMade
  pub state : State

unfoldable pub state_run : State → List QueueCall → StateRun
state_run S [] = record { made = []; state = S }
state_run S (put_call number f ∷ calls) =
    let after : StateRun = state_run (or_old S (state_put S number f)) calls in
    record { made = made_put number f (map_result (λ T. length f) (state_put S number f)) ∷ after.made; state = after.state }
state_run S (serve_call out ∷ calls) =
    let step : Step = state_serve S out (due S) in
    let after : StateRun = state_run step.state calls in
    record { made = made_serve step.answer step.out ∷ after.made; state = after.state }

-- ---- calls on a buffer that holds the state

module _ (S : State) (b : List ℕ) (h : HeldIn b S) where
  put-done : (q : Queue) (f : List ℕ) (r : Result State) → put_in q f S ≡ r
      → ((put_done b f r).answer ≡ map_result (λ T. length f) r) × HeldIn (put_done b f r).queues (or_old S r)
  unfolding put_done
  put-done q f (ok T) e = (refl, held-over T b (fits-added (held_fits S b h) (put-added q f S T e)) h.long)
  put-done q f (refused why) e = (refl, h)

  put_is : (number : ℕ) (f : List ℕ)
      → ((put b number f).answer ≡ map_result (λ T. length f) (state_put S number f))
      × HeldIn (put b number f).queues (or_old S (state_put S number f))
  unfolding put queue_numbered put_done
  put_is zero f = rw (in_held b S h) (put-done chassis f (put_in chassis f S) refl)
  put_is (suc zero) f = rw (in_held b S h) (put-done fixed_unit f (put_in fixed_unit f S) refl)
  put_is (suc (suc n)) f = (refl, h)

  -- A serve gave and left what the step on states did.
  abbrev Steps : ServeOutcome → Step → Type 0
  Steps o m = (o.answer ≡ m.answer) × (o.out ≡ m.out) × HeldIn o.queues m.state

  due-is : (out : List ℕ) (d : Option Due) → IsDue S d → Steps (serve_due b out d) (state_serve S out d)
  unfolding serve_due
  due-is out none (nothing e) = (refl, refl, h)
  due-is out (some d) (one q f later e turn) = by-room (leb (length f) (length out)) where
    gave : ServeOutcome
    gave = record { answer = ok (frame_from q (length f)); queues = state_over d.left b; out = written_over f out }

    given : Step
    given = record { answer = ok (frame_from q (length f)); out = written_over f out; state = d.left }

    by-room : (t : Bool)
        → Steps (if t then gave else record { answer = refused 9; queues = b; out = out })
        (if t then given else record { answer = refused 9; out = out; state = S })
    by-room true = (refl, refl, held-over d.left b (fits-left q f later S (held_fits S b h) e) h.long)
    by-room false = (refl, refl, h)

  serve_is : (out : List ℕ) → Steps (serve b out) (state_serve S out (due S))
  unfolding serve serve_held
  serve_is out = rw (in_held b S h) (due-is out (due S) (is-due S))

pub run_is : (calls : List QueueCall) (b : List ℕ) (S : State) → HeldIn b S
    → ((queues_run b calls).made ≡ (state_run S calls).made) × HeldIn (queues_run b calls).queues (state_run S calls).state
unfolding queues_run state_run
run_is [] b S h = (refl, h)
run_is (put_call number f ∷ calls) b S h =
    let first = put_is S b h number f in
    let rest = run_is calls (put b number f).queues (or_old S (state_put S number f)) first.1 in
    (ap₂ (λ (a : Result ℕ) (ms : List QueueMade). made_put number f a ∷ ms) first.0 rest.0, rest.1)
run_is (serve_call out ∷ calls) b S h =
    let first = serve_is S b h out in
    let rest = run_is calls (serve b out).queues (state_serve S out (due S)).state first.2 in
    (λ i. made_serve (first.0 i) (first.1 i) ∷ rest.0 i, rest.1)

pub bytes-free : FreeBytes
bytes-free S b b' e e' calls =
    let one = run_is calls b S (held_in b S e) in
    let two = run_is calls b' S (held_in b' S e') in (
      one.0 ∙ sym two.0,
      λ T is. in_held _ (state_run S calls).state two.1 ∙ sym (in_held _ (state_run S calls).state one.1) ∙ is,
    )
