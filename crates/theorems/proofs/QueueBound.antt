-- The bound on waiting is reached: where j + 1 frames wait in queue 0, which is tried first, and j in queue 1, the next of queue 1 is last.
use Prim.Native.Nat.{ℕ, zero, suc, ◌+◌, ◌*◌, ◌≤◌, ◌<◌}
use native.Mathlib.Omega.{arith}
use mathlib.Core.Path.{◌≡◌, refl, sym, ap, ◌∙◌}
use mathlib.Core.List.{List, [], ◌∷◌, ◌++◌, append_assoc, append-nil}
use mathlib.Core.Option.{Option, some}
use lib.ListN.{length, replicate, length-append, length-replicate}
use borrow.Author.Tests.{lt-ltb}
use Rattle.definitions.specs.Calls.Base.{written_over}
use Rattle.definitions.specs.Words.Basics.{Result, ok}
use Rattle.definitions.specs.Calls.Queues.{Queue, chassis, fixed_unit, queue_number, Mark, nobody, last, Frames, State, fresh_state, waiting, with_frames, put_in, Due, first_tried, oldest, due}
use Rattle.definitions.specs.Calls.QueueBytes.{queue_numbered}
use Rattle.definitions.specs.Lists.Queues.{QueueCall, put_call, serve_call, made_serve, fresh_queues, Given, served, given_of}
use Rattle.definitions.specs.Claims.Queues.{BoundReached, Latest, left_by}
use Rattle.theorems.proofs.QueueMachine.{state_put, or_old, Step, state_serve, state_run, run_is}
use Rattle.theorems.proofs.QueueRuns.{fresh-held, waiting-is, with-is}

-- Frames of one byte: of queue 0, of queue 1, and the one that waits.
abbrev seven : List ℕ
seven = 7 ∷ []

abbrev eight : List ℕ
eight = 8 ∷ []

abbrev nine : List ℕ
nine = 9 ∷ []

-- Who was served last, k + 1 frames in queue 0, and in queue 1 the frame behind k others.
abbrev between : Mark → (k : ℕ) → State
between m k = record { mark = m; of_chassis = replicate (suc k) seven; of_fixed_unit = replicate k eight ++ (nine ∷ []) }

-- ---- the serves

-- 2k + 2 serves with outputs of one byte.
serves : ℕ → List QueueCall
serves zero = serve_call (0 ∷ []) ∷ serve_call (0 ∷ []) ∷ []
serves (suc k) = serve_call (0 ∷ []) ∷ serve_call (0 ∷ []) ∷ serves k

-- What the first 2k + 1 give: the queues by turns.
turns : ℕ → List (Option Given)
turns zero = some (record { queue = chassis; frame = seven }) ∷ []
turns (suc k) = some (record { queue = chassis; frame = seven }) ∷ some (record { queue = fixed_unit; frame = eight }) ∷ turns k

turns-length : (k : ℕ) → length (turns k) ≡ 2 * k + 1
unfolding turns
turns-length zero = refl
turns-length (suc k) = omega (arith, turns-length k)

turns-of : (k : ℕ) → length (given_of fixed_unit (turns k)) ≡ k
unfolding turns given_of
turns-of zero = refl
turns-of (suc k) = ap suc (turns-of k)

-- Queue 0 is tried first, unless it was served last.
first-due : (m : Mark) (f : List ℕ) (fs gs : Frames) → first_tried m ≡ chassis
    → due (record { mark = m; of_chassis = f ∷ fs; of_fixed_unit = gs })
    ≡ some (record { queue = chassis; frame = f; left = record { mark = last chassis; of_chassis = fs; of_fixed_unit = gs } })
unfolding due oldest
first-due m f fs gs e = rw e refl

second-due : (f : List ℕ) (fs gs : Frames)
    → due (record { mark = last chassis; of_chassis = gs; of_fixed_unit = f ∷ fs })
    ≡ some (record { queue = fixed_unit; frame = f; left = record { mark = last fixed_unit; of_chassis = gs; of_fixed_unit = fs } })
unfolding due oldest first_tried
second-due f fs gs = refl

tried-next : first_tried (last fixed_unit) ≡ chassis
unfolding first_tried
tried-next = refl

one-served : (S left : State) (q : Queue) (b : ℕ) (calls : List QueueCall)
    → due S ≡ some (record { queue = q; frame = b ∷ []; left = left })
    → served (state_run S (serve_call (0 ∷ []) ∷ calls)).made
    ≡ some (record { queue = q; frame = b ∷ [] }) ∷ served (state_run left calls).made
unfolding state_run served written_over
one-served S left q b calls e =
    ap (λ (d : Option Due).
    let step : Step = state_serve S (0 ∷ []) d in
    served (made_serve step.answer step.out ∷ (state_run step.state calls).made))
    e

by-turns : (k : ℕ) (m : Mark) → first_tried m ≡ chassis
    → served (state_run (between m k) (serves k)).made ≡ turns k ++ (some (record { queue = fixed_unit; frame = nine }) ∷ [])
unfolding serves turns
by-turns zero m e =
    one-served (between m 0) _ chassis 7 _ (first-due m seven [] (nine ∷ []) e)
    ∙ ap (λ (l : List (Option Given)). some (record { queue = chassis; frame = seven }) ∷ l)
    (one-served _ _ fixed_unit 9 [] (second-due nine [] []) ∙ unfold served state_run in refl)
by-turns (suc k) m e =
    let behind : Frames = replicate k eight ++ (nine ∷ []) in
    one-served (between m (suc k)) _ chassis 7 _ (first-due m seven (replicate (suc k) seven) (eight ∷ behind) e)
    ∙ ap (λ (l : List (Option Given)). some (record { queue = chassis; frame = seven }) ∷ l)
    (one-served _ _ fixed_unit 8 (serves k) (second-due eight behind (replicate (suc k) seven))
    ∙ ap (λ (l : List (Option Given)). some (record { queue = fixed_unit; frame = eight }) ∷ l) (by-turns k (last fixed_unit) tried-next))

-- ---- the puts

runs_on : (first second : List QueueCall) (S : State)
    → (state_run S (first ++ second)).state ≡ (state_run (state_run S first).state second).state
unfolding state_run
runs_on [] second S = refl
runs_on (put_call number f ∷ first) second S = runs_on first second _
runs_on (serve_call out ∷ first) second S = runs_on first second _

put-accepts : (q : Queue) (b : ℕ) (S : State) → length (waiting q S) < 16
    → state_put S (queue_number q) (b ∷ []) ≡ ok (with_frames q (waiting q S ++ ((b ∷ []) ∷ [])) S)
unfolding queue_numbered put_in
put-accepts chassis b S room = rw (lt-ltb (length S.of_chassis) 16 room) refl
put-accepts fixed_unit b S room = rw (lt-ltb (length S.of_fixed_unit) 16 room) refl

one-put : (q : Queue) (b : ℕ) (S : State) (calls : List QueueCall) → length (waiting q S) < 16
    → (state_run S (put_call (queue_number q) (b ∷ []) ∷ calls)).state
    ≡ (state_run (with_frames q (waiting q S ++ ((b ∷ []) ∷ [])) S) calls).state
unfolding state_run
one-put q b S calls room = ap (λ (r : Result State). (state_run (or_old S r) calls).state) (put-accepts q b S room)

with-with : (q : Queue) (fs gs : Frames) (S : State)
    → with_frames q (waiting q (with_frames q fs S) ++ gs) (with_frames q fs S) ≡ with_frames q (fs ++ gs) S
with-with chassis fs gs S = refl
with-with fixed_unit fs gs S = refl

with-waiting : (q : Queue) (S : State) → with_frames q (waiting q S) S ≡ S
with-waiting chassis S = refl
with-waiting fixed_unit S = refl

-- As many frames of one byte as a queue has places left for.
put-many : (k : ℕ) (q : Queue) (b : ℕ) (S : State) → length (waiting q S) + k ≤ 16
    → (state_run S (replicate k (put_call (queue_number q) (b ∷ [])))).state ≡ with_frames q (waiting q S ++ replicate k (b ∷ [])) S
put-many zero q b S room =
    unfold state_run in sym (with-waiting q S) ∙ ap (λ (l : Frames). with_frames q l S) (sym (append-nil (waiting q S)))
put-many (suc k) q b S room =
    let fs : Frames = waiting q S ++ ((b ∷ []) ∷ []) in
    let more : length (waiting q (with_frames q fs S)) + k ≤ 16 =
    rw (with-is q fs S, length-append (waiting q S) ((b ∷ []) ∷ [])) (omega arith) in
    one-put q b S (replicate k (put_call (queue_number q) (b ∷ []))) (omega arith) ∙ put-many k q b (with_frames q fs S) more
    ∙ with-with q fs (replicate k (b ∷ [])) S
    ∙ ap (λ (l : Frames). with_frames q l S) (append_assoc (waiting q S) ((b ∷ []) ∷ []) (replicate k (b ∷ [])))

filled : ℕ → List QueueCall
filled j = replicate (suc j) (put_call 0 seven) ++ replicate j (put_call 1 eight)

module _ (j : ℕ) (below : j < 16) where
  others-wait : State
  others-wait = record { mark = nobody; of_chassis = replicate (suc j) seven; of_fixed_unit = replicate j eight }

  after_filled : (state_run fresh_state (filled j)).state ≡ others-wait
  unfolding filled others-wait
  after_filled =
      runs_on (replicate (suc j) (put_call 0 seven)) (replicate j (put_call 1 eight)) fresh_state
      ∙ ap (λ (S : State). (state_run S (replicate j (put_call 1 eight))).state) (put-many (suc j) chassis 7 fresh_state (omega arith))
      ∙ put-many j fixed_unit 8 _ (omega arith)

  then-put : (state_run others-wait (put_call 1 nine ∷ [])).state ≡ between nobody j
  unfolding others-wait state_run
  then-put = one-put fixed_unit 9 others-wait [] (omega (arith, length-replicate j eight))

  after-put : (state_run fresh_state (filled j ++ (put_call 1 nine ∷ []))).state ≡ between nobody j
  after-put =
      runs_on (filled j) (put_call 1 nine ∷ []) fresh_state
      ∙ ap (λ (S : State). (state_run S (put_call 1 nine ∷ [])).state) after_filled ∙ then-put

  latest : Latest j
  unfolding first_tried others-wait
  latest =
      let before = (run_is (filled j) fresh_queues fresh_state fresh-held).1 in
      let put-it = (run_is (filled j ++ (put_call 1 nine ∷ [])) fresh_queues fresh_state fresh-held).1 in
      let made = (run_is (serves j) (left_by (filled j ++ (put_call 1 nine ∷ []))) _ put-it).0 in
      record {
        earlier = filled j;
        later = serves j;
        queue = fixed_unit;
        frame = nine;
        others = ap length (waiting-is fixed_unit before ∙ ap (waiting fixed_unit) after_filled) ∙ length-replicate j eight;
        comes_out = record {
          before = turns j;
          after = [];
          there = ap served (made ∙ ap (λ (S : State). (state_run S (serves j)).made) after-put) ∙ by-turns j nobody refl;
          in_turn = turns-of j;
          in_time = omega (arith, turns-length j);
        };
        late = turns-length j;
      }

pub bound-is-reached : BoundReached
bound-is-reached = latest
