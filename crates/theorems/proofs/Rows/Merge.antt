-- Up to each limit merge is accepted: by computation, as its other answers beside the definitions.
use mathlib.Core.Path.{refl}
use Rattle.definitions.specs.Rows.Merge.{MergeLimits, MergeRows}
use Rattle.definitions.proofs.Everything.{everything}
use Rattle.definitions.proofs.Rows.Merge.{merge-answers-hold}

merge-limits-hold : MergeLimits
unfolding everything
merge-limits-hold = record {
  records-within = refl;
  depth-within = refl;
  nodes-within = refl;
  bytes-at = refl;
  bytes-within = refl;
}

pub merge-rows-hold : MergeRows
merge-rows-hold = record { answers = merge-answers-hold; limits = merge-limits-hold }
