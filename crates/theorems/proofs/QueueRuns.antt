-- Lists of calls from fresh: a state is always held, so order and the bound on waiting hold of the bytes.
use Rattle.std.specs.Prelude.{if◌then◌else◌}
use Prim.Native.Nat.{ℕ, ◌+◌, ◌*◌, ◌≤◌}
use native.Mathlib.Omega.{arith}
use mathlib.Core.Path.{◌≡◌, refl, sym, ap, ap₂, ◌∙◌, subst}
use mathlib.Core.Bool.{Bool, true, false}
use mathlib.Core.Logic.{inr}
use mathlib.Core.List.{List, [], ◌∷◌, ◌++◌}
use mathlib.Core.Option.{Option, none, some}
use lib.ListN.{length, length-replicate}
use lib.Dec.{leb}
use Rattle.definitions.specs.Words.Basics.{ok, refused}
use Rattle.definitions.specs.Calls.Queues.{Queue, chassis, fixed_unit, queue_number, Frames, State, fresh_state, waiting, with_frames, Due, due}
use Rattle.definitions.specs.Calls.QueueBytes.{mark_of, frames_of, queue_of, PutOutcome, put, frame_from, ServeOutcome, serve_due, serve_held, serve}
use Rattle.definitions.specs.Lists.Queues.{QueueCall, put_call, serve_call, made_put, made_serve, QueuesRun, queues_run, fresh_queues, waiting_of, waiting_in, added, Given, served, given_of}
use Rattle.definitions.specs.Claims.Queues.{FramesFit, RunParts, AlwaysHeld, InOrder, ServeGives, FairQueues, left_by}
use Rattle.theorems.proofs.InverseFrame.{same_ok}
use Rattle.theorems.proofs.QueueStates.{HeldIn, held_in, in_held, held_fits}
use Rattle.theorems.proofs.QueueChanges.{IsDue, nothing, one, is-due, LeftAll, run-left}
use Rattle.theorems.proofs.QueueFairness.{ordered, comes-out}
use Rattle.theorems.proofs.QueueCalls.{put-adds-by}

pub parts-run : RunParts
unfolding queues_run
parts-run b [] second = refl
parts-run b (put_call number f ∷ calls) second =
    let one : PutOutcome = put b number f in
    ap (λ (r : QueuesRun). record { made = made_put number f one.answer ∷ r.made; queues = r.queues })
    (parts-run one.queues calls second)
parts-run b (serve_call out ∷ calls) second =
    let one : ServeOutcome = serve b out in
    ap (λ (r : QueuesRun). record { made = made_serve one.answer one.out ∷ r.made; queues = r.queues })
    (parts-run one.queues calls second)

-- ---- from fresh

pub fresh-held : HeldIn fresh_queues fresh_state
unfolding fresh_queues mark_of queue_of frames_of
fresh-held = record { long = length-replicate {A = ℕ} 32835 0; mark = refl; queue = elim [ chassis ↦ refl | fixed_unit ↦ refl ] }

from-fresh : (calls : List QueueCall) → LeftAll fresh_state (queues_run fresh_queues calls)
from-fresh calls = run-left calls fresh_queues fresh_state fresh-held

pub waiting-is : (q : Queue) {b : List ℕ} {S : State} → HeldIn b S → waiting_in q b ≡ waiting q S
unfolding waiting_in waiting_of
waiting-is q {b} {S} h = ap (waiting_of q) (in_held b S h)

pub held-always : AlwaysHeld
held-always calls = let all = from-fresh calls in (all.state, in_held _ all.state all.holds)

pub order-kept : InOrder
order-kept calls q =
    let all = from-fresh calls in
    ap (λ (l : Frames). given_of q (served (queues_run fresh_queues calls).made) ++ l) (waiting-is q all.holds) ∙ ordered all.changes q
    ∙ ap (λ (l : Frames). l ++ added q (queues_run fresh_queues calls).made) (empty q)
  where
    empty : (q : Queue) → waiting q fresh_state ≡ []
    empty chassis = refl
    empty fixed_unit = refl

-- ---- a frame that waits is given

answer-of : (t : Bool) (x y : ServeOutcome) → (if t then x else y).answer ≡ (if t then x.answer else y.answer)
answer-of true x y = refl
answer-of false x y = refl

module _ (b out : List ℕ) (S : State) (h : HeldIn b S) (q : Queue) (some-wait : 1 ≤ length (waiting q S)) where
  due-gives : (d : Option Due) → IsDue S d
      → (o : Given) × (length o.frame ≤ 1024)
      × ((serve_due b out d).answer
      ≡ (if leb (length o.frame) (length out) then ok (frame_from o.queue (length o.frame)) else refused 9))
  unfolding serve_due
  due-gives none (nothing e) = absurd (omega (arith, ap length (e q)))
  due-gives (some d) (one p f later e turn) =
      (record { queue = p; frame = f }, fit.1, answer-of (leb (length f) (length out)) _ _)
    where
      fit : FramesFit (f ∷ later)
      fit = subst FramesFit e (held_fits S b h p).1

pub serve-gives-by : ServeGives
unfolding serve serve_held
serve-gives-by calls q out some-wait =
    let all = from-fresh calls in
    rw (in_held _ all.state all.holds)
    (due-gives _ out all.state all.holds q (omega (arith, ap length (waiting-is q all.holds))) (due all.state)
    (is-due all.state))

-- ---- fairness

pub with-is : (q : Queue) (fs : Frames) (S : State) → waiting q (with_frames q fs S) ≡ fs
with-is chassis fs S = refl
with-is fixed_unit fs S = refl

same_number : (p q : Queue) → queue_number p ≡ queue_number q → p ≡ q
same_number chassis chassis e = refl
same_number chassis fixed_unit e = absurd (omega (arith, e))
same_number fixed_unit chassis e = absurd (omega (arith, e))
same_number fixed_unit fixed_unit e = refl

-- An accepted put leaves the state with its frame behind the others.
put-leaves : (b : List ℕ) (S : State) → HeldIn b S → (q : Queue) (f : List ℕ) (n : ℕ) → (put b (queue_number q) f).answer ≡ ok n
    → HeldIn (put b (queue_number q) f).queues (with_frames q (waiting q S ++ (f ∷ [])) S)
put-leaves b S h q f n a =
    let put-it = put-adds-by b (queue_number q) f n a in
    let p : put-it.queue ≡ q = same_number put-it.queue q (sym put-it.numbered) in
    let T : put-it.state ≡ S = same_ok _ _ (sym put-it.holds ∙ in_held b S h) in
    held_in _ _ (put-it.leaves ∙ ap₂ (λ (p : Queue) (T : State). ok (with_frames p (waiting p T ++ (f ∷ [])) T)) p T)

pub fair-by : FairQueues
unfolding queues_run
fair-by earlier later q f accepted enough =
    let b : List ℕ = left_by earlier in
    let all = from-fresh earlier in
    let S : State = all.state in
    let left = put-leaves b S all.holds q f (length f) accepted in
    let here : left_by (earlier ++ (put_call (queue_number q) f ∷ [])) ≡ (put b (queue_number q) f).queues =
    ap (λ (r : QueuesRun). r.queues) (parts-run fresh_queues earlier (put_call (queue_number q) f ∷ [])) in
    let rest = run-left later (put b (queue_number q) f).queues _ left in
    let j : length (waiting_in q b) ≡ length (waiting q S) = ap length (waiting-is q all.holds) in
    rw (here, j)
    (comes-out q f rest.changes (waiting q S) [] (with-is q (waiting q S ++ (f ∷ [])) S) (2 * length (waiting q S) + 2)
    (inr (omega arith)) (rw (here, j) at enough))
