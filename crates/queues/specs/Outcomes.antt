-- Which definition each answer is.
use Rattle.std.specs.Prelude.{ℕ, ◌≡◌, ◌<◌, List, Option, Some, None, Result as Given, Ok, Err}
use Rattle.definitions.specs.Words.Basics.{Result, ok, refused}
use Rattle.definitions.specs.Calls.Queues as queues
use Rattle.definitions.specs.Calls.QueueBytes as bytes
use Rattle.terms.specs.Refusals.{number_of}
use Rattle.terms.specs.declared.refusals.Refusal.{Refusal}
use Rattle.terms.specs.declared.refusals.Refusal.TheVariants.{NoSuchQueue}
use Rattle.call_answers.specs.Outcomes.{Answered, answer_of}
use Rattle.queues.specs.declared.answers.Queue.{Queue}
use Rattle.queues.specs.declared.answers.Queue.TheVariants.{Chassis, FixedUnit}

-- The queue that is meant.
abbrev pub queue_is : Queue → queues.Queue
queue_is Chassis = queues.chassis
queue_is FixedUnit = queues.fixed_unit

-- The queue of a number, or that there is none.
abbrev pub NumberedIs : ℕ → Given Queue Refusal → Type 0
NumberedIs number (Ok queue) = number ≡ queues.queue_number (queue_is queue)
NumberedIs number (Err why) = (1 < number) × (why ≡ NoSuchQueue)

-- A frame's queue and length, or that both queues are empty, or why the serve is refused.
abbrev pub ServeAnswered : Type 0
ServeAnswered = Given (Option (Queue × ℕ)) Refusal

-- Serve's answer of 02 for each case.
abbrev pub serve_answer_of : ServeAnswered → Result bytes.Served
serve_answer_of (Ok (Some frame)) = ok (bytes.frame_from (queue_is frame.0) frame.1)
serve_answer_of (Ok None) = ok bytes.both_empty
serve_answer_of (Err why) = refused (number_of why)

-- The put is the definition's: answer and queues.
abbrev pub PutIs : bytes.PutOutcome → (after : List ℕ) → Answered → Type 0
PutIs o after r = o ≡ record { answer = answer_of r; queues = after }

-- The serve is the definition's: answer, queues and output.
abbrev pub ServeIs : bytes.ServeOutcome → (after out_after : List ℕ) → ServeAnswered → Type 0
ServeIs o after out_after r = o ≡ record { answer = serve_answer_of r; queues = after; out = out_after }
