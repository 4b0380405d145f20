-- Merged frames, and the answers of merge in their order and over each limit, hold by computation.
use mathlib.Core.Path.{refl}
use Rattle.definitions.specs.Rows.Merge.{MergeAnswers}
use Rattle.definitions.proofs.Everything.{everything}

pub merge-answers-hold : MergeAnswers
unfolding everything
merge-answers-hold = record {
  merged = refl;
  written = refl;
  bad-first = refl;
  bad-arity = refl;
  bad-plan = refl;
  no-plan = refl;
  held-extraction = refl;
  short-scratch = refl;
  short-buffer = refl;
  just_enough = refl;
  records-over = refl;
  depth-over = refl;
  nodes-over = refl;
  bytes-over = refl;
}
