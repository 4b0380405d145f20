-- Whose turn it is, the answers of put and serve in their order, and the bytes of one queue hold by computation.
use mathlib.Core.Path.{refl}
use Rattle.definitions.specs.Rows.Queues.{QueueAnswers}
use Rattle.definitions.proofs.Everything.{everything}

pub queue-answers-hold : QueueAnswers
unfolding everything
queue-answers-hold = record {
  from-fresh = refl;
  after_first = refl;
  after-second = refl;
  first-again = refl;
  second-from-fresh = refl;
  nothing-due = refl;
  put_first = refl;
  put_second = refl;
  last-place = refl;
  longest = refl;
  no-queue = refl;
  put-unheld = refl;
  empty-frame = refl;
  too_long = refl;
  queue-full = refl;
  queue-numbers = refl;
  given_out = refl;
  given-left = refl;
  just_enough = refl;
  short-output = refl;
  both-empty = refl;
  serve-unheld = refl;
  marks = refl;
  mark-bytes = refl;
  length-0 = refl;
  length-1025 = refl;
  length-1024 = refl;
  second-bad = refl;
  second-place = refl;
  sixteen = refl;
  seventeen = refl;
  free-lengths = refl;
  one_written = refl;
  first-starts = refl;
  second-starts = refl;
  queue-size = refl;
  whole-size = refl;
  serves-counted = refl;
  puts-counted = refl;
}
