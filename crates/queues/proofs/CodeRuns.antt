-- Calls that meet their contracts are the definitions' calls, so a list of them is the definitions' list.
use Prim.Native.Nat.{ℕ}
use mathlib.Core.Path.{◌≡◌, refl, ap}
use mathlib.Core.List.{List, ◌∷◌}
use Rattle.definitions.specs.Lists.Queues.{QueueCall, QueueMade, made_put, made_serve, QueuesRun, queues_run}
use Rattle.call_answers.specs.Outcomes.{answer_of}
use Rattle.queues.specs.Outcomes.{serve_answer_of}
use Rattle.queues.specs.Lists.{Ran, no_call, put_ran, serve_ran, CodeRuns}

ran-is : {queues left : List ℕ} {calls : List QueueCall} {made : List QueueMade} → Ran queues calls made left
    → queues_run queues calls ≡ record { made = made; queues = left }
unfolding queues_run
ran-is no_call = refl
ran-is (put_ran {frame = f} {number = n} r is more) =
    rw is (ap (λ (all : QueuesRun). record { made = made_put n f (answer_of r) ∷ all.made; queues = all.queues }) (ran-is more))
ran-is (serve_ran {out_after = out} r is more) =
    rw is (ap (λ (all : QueuesRun). record { made = made_serve (serve_answer_of r) out ∷ all.made; queues = all.queues }) (ran-is more))

pub code_runs : CodeRuns
code_runs queues left calls made ran = ran-is ran
