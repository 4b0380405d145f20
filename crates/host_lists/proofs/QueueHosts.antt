-- A host's list of puts and serves is the definitions' list: from each number the answer is known.
use Prim.Native.Nat.{ℕ, zero, suc, ◌+◌, ◌*◌, ◌≤◌}
use native.Mathlib.Omega.{arith}
use mathlib.Core.Path.{◌≡◌, refl, sym, ap, ap₂, ◌∙◌, subst}
use mathlib.Core.Option.{Option}
use mathlib.Core.List.{List, [], ◌∷◌, ◌++◌}
use lib.IntN.{pos}
use lib.ListN.{length}
use borrow.Author.Tests.{lt-ltb, le-ltb, ne_eqb}
use Rattle.definitions.specs.Words.Basics.{Result, ok, refused, all}
use Rattle.definitions.specs.Calls.Queues.{Queue, chassis, fixed_unit, queue_number}
use Rattle.definitions.specs.Calls.QueueBytes.{state_of, put, Served, frame_from, both_empty, serve}
use Rattle.definitions.specs.Lists.Queues.{QueueCall, put_call, serve_call, QueueMade, made_put, made_serve, QueuesRun, queues_run, fresh_queues, waiting_in, added, Given, served, given_of}
use Rattle.definitions.specs.Claims.Queues.{left_by, served_after, ComesOut}
use Rattle.host_calls.specs.Hosts.{hosted, hosted_serve}
use Rattle.definitions.specs.Claims.Calls.{put_refusals, serve_refusals, RefusedBy}
use Rattle.theorems.proofs.Proved.{refusals-of-calls, put-adds, queue-lengths, run-parts, always-held, in-order, fair}
use Rattle.host_calls.specs.Hosted.{PutHosted}
use Rattle.host_lists.specs.Numbers.{answered}
use Rattle.host_lists.specs.QueueHosts.{served_as, serve_answered, QueueNumbersKnown, put_hosted, serve_hosted, QueuesHosted, hosted_none, hosted_one, HostQueues}
use Rattle.host_lists.proofs.Numbers.{known-refusal, one_of}

-- ---- the numbers

put-known : (x : Result ℕ) → RefusedBy put_refusals x → answered (hosted x) ≡ x
unfolding hosted put_refusals all
put-known (ok n) h = refl
put-known (refused k) h = known-refusal k (one_of 23 put_refusals refl k h).0

queue-known : (q : Queue) (n : ℕ) → 1 ≤ n → n ≤ 1024 → served_as (queue_number q * 65536 + n) ≡ frame_from q n
queue-known chassis n low high =
    rw (ne_eqb (0 * 65536 + n) 0 (λ e. omega (arith, e)), lt-ltb (0 * 65536 + n) 65536 (omega arith))
    (ap (frame_from chassis) (omega arith))
queue-known fixed_unit n low high =
    rw (ne_eqb (1 * 65536 + n) 0 (λ e. omega (arith, e)), le-ltb (1 * 65536 + n) 65536 (omega arith))
    (ap (frame_from fixed_unit) (omega arith))

serve-known : (x : Result Served) → RefusedBy serve_refusals x → ((q : Queue) (n : ℕ) → x ≡ ok (frame_from q n) → (1 ≤ n) × (n ≤ 1024))
    → serve_answered (hosted_serve x) ≡ x
unfolding hosted_serve serve_refusals all
serve-known (ok (frame_from q n)) h short = let (low, high) = short q n refl in ap (λ (s : Served). ok s) (queue-known q n low high)
serve-known (ok both_empty) h short = refl
serve-known (refused k) h short = refused-known k (one_of 23 serve_refusals refl k h).0 where
  refused-known : (k : ℕ) → 1 ≤ k → serve_answered (hosted_serve (refused k)) ≡ refused k
  refused-known zero low = absurd (omega (arith, low))
  refused-known (suc k) low = refl

pub queue-numbers-known : QueueNumbersKnown
queue-numbers-known = (
  λ b number f. put-known (put b number f).answer (refusals-of-calls.7 b number f),
  λ b out. serve-known (serve b out).answer (refusals-of-calls.8 b out) (λ q n e. queue-lengths.1 b out q n e),
)

-- ---- the calls

same-run : {queues left : List ℕ} {calls : List QueueCall} {made : List QueueMade} → QueuesHosted queues calls made left
    → queues_run queues calls ≡ record { made = made; queues = left }
unfolding queues_run
same-run hosted_none = refl
same-run (hosted_one {queues = b} {calls = calls} (put_hosted {frame = f} {number = k} z is) more) =
    ap₂ (λ (a : Result ℕ) (r : QueuesRun). record { made = made_put k f a ∷ r.made; queues = r.queues })
    (sym (ap answered is.0 ∙ queue-numbers-known.0 b k f)) (ap (λ (s : List ℕ). queues_run s calls) (sym is.1) ∙ same-run more)
same-run (hosted_one {queues = b} {calls = calls} (serve_hosted {out = out} z is) more) =
    let rest = ap (λ (s : List ℕ). queues_run s calls) (sym is.1) ∙ same-run more in
    let answer = sym (ap serve_answered is.0 ∙ queue-numbers-known.1 b out) in
    λ i. record { made = made_serve (answer i) (sym is.2 i) ∷ (rest i).made; queues = (rest i).queues }

list-runs : (queues : List ℕ) (calls : List QueueCall) → (made : List QueueMade) × (left : List ℕ) × QueuesHosted queues calls made left
list-runs b [] = ([], b, hosted_none)
list-runs b (put_call number f ∷ calls) =
    let (made, left, ran) = list-runs (put b number f).queues calls in
    (_, left, hosted_one (put_hosted (hosted (put b number f).answer) (refl, refl)) ran)
list-runs b (serve_call out ∷ calls) =
    let (made, left, ran) = list-runs (serve b out).queues calls in
    (_, left, hosted_one (serve_hosted (hosted_serve (serve b out).answer) (refl, refl, refl)) ran)

left_is : {calls : List QueueCall} {made : List QueueMade} {left : List ℕ} → QueuesHosted fresh_queues calls made left
    → left_by calls ≡ left
left_is ran = ap (λ (r : QueuesRun). r.queues) (same-run ran)

-- ---- fairness

module _ (b : List ℕ) (q : Queue) (f after : List ℕ) (n : ℕ) (is : PutHosted (put b (queue_number q) f) after (pos n)) where
  accepted-is : (put b (queue_number q) f).answer ≡ ok n
  accepted-is = sym (ap answered is.0 ∙ queue-numbers-known.0 b (queue_number q) f)

  put-length : (put b (queue_number q) f).answer ≡ ok (length f)
  put-length = accepted-is ∙ ap (λ (k : ℕ). ok k) (put-adds b (queue_number q) f n accepted-is).size

put_last : (earlier : List QueueCall) (q : Queue) (f : List ℕ)
    → left_by (earlier ++ (put_call (queue_number q) f ∷ [])) ≡ (put (left_by earlier) (queue_number q) f).queues
unfolding queues_run
put_last earlier q f = ap (λ (r : QueuesRun). r.queues) (run-parts fresh_queues earlier (put_call (queue_number q) f ∷ []))

host-fair : (earlier later : List QueueCall) (made since : List QueueMade) (before after left : List ℕ) (q : Queue) (f : List ℕ) (n : ℕ)
    → QueuesHosted fresh_queues earlier made before → PutHosted (put before (queue_number q) f) after (pos n)
    → QueuesHosted after later since left → 2 * length (waiting_in q before) + 2 ≤ length (served since)
    → ComesOut (served since) q f (length (waiting_in q before)) (2 * length (waiting_in q before) + 2)
host-fair earlier later made since before after left q f n ran is more enough =
    let here : left_by earlier ≡ before = left_is ran in
    let put-here : left_by (earlier ++ (put_call (queue_number q) f ∷ [])) ≡ after =
    put_last earlier q f ∙ ap (λ (b : List ℕ). (put b (queue_number q) f).queues) here ∙ sym is.1 in
    let serves : served_after (earlier ++ (put_call (queue_number q) f ∷ [])) later ≡ served since =
    ap (λ (b : List ℕ). served (queues_run b later).made) put-here ∙ ap (λ (r : QueuesRun). served r.made) (same-run more) in
    let behind : length (waiting_in q (left_by earlier)) ≡ length (waiting_in q before) =
    ap (λ (b : List ℕ). length (waiting_in q b)) here in
    let answer : (put (left_by earlier) (queue_number q) f).answer ≡ ok (length f) =
    ap (λ (b : List ℕ). (put b (queue_number q) f).answer) here ∙ put-length before q f after n is in
    let out = fair earlier later q f answer (omega (arith, enough, behind, ap length serves)) in
    subst (λ (j : ℕ). ComesOut (served since) q f j (2 * j + 2)) behind
    (subst (λ (all : List (Option Given)). ComesOut all q f (length (waiting_in q (left_by earlier)))
    (2 * length (waiting_in q (left_by earlier)) + 2)) serves out)

pub host-queues : HostQueues
host-queues = record {
  same = λ b calls made left ran. same-run ran;
  runs = list-runs;
  held = λ calls made left ran. let (S, is) = always-held calls in (S, ap state_of (sym (left_is ran)) ∙ is);
  in_order = λ calls made left ran q.
      subst (λ (r : QueuesRun). given_of q (served r.made) ++ waiting_in q r.queues ≡ added q r.made) (same-run ran)
      (in-order calls q);
  fair = host-fair;
}
