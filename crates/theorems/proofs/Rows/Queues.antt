-- Puts and serves on whole buffers: by computation, as their other answers beside the definitions.
use mathlib.Core.Path.{refl}
use Rattle.definitions.specs.Rows.Queues.{QueueRows}
use Rattle.definitions.proofs.Everything.{everything}
use Rattle.definitions.proofs.Rows.Queues.{queue-answers-hold}

pub queue-rows-hold : QueueRows
unfolding everything
queue-rows-hold = record { answers = queue-answers-hold; puts = refl; serves = refl; one-put = refl }
