-- Projected extractions, and the answers of project in their order, hold by computation.
use mathlib.Core.Path.{refl}
use Rattle.definitions.specs.Rows.Project.{ProjectAnswers}
use Rattle.definitions.proofs.Everything.{everything}

pub project-answers-hold : ProjectAnswers
unfolding everything
project-answers-hold = record {
  first-equal = refl;
  no-equal = refl;
  worked-run = refl;
  written = refl;
  exchanged-first = refl;
  knn-left = refl;
  knn-right = refl;
  bound-left = refl;
  bound-right = refl;
  bound-copied = refl;
  records = refl;
  unreferenced = refl;
  empty-lists = refl;
  bad-plan = refl;
  no-plan = refl;
  not-extracted = refl;
  frame-held = refl;
  long-left = refl;
  long-right = refl;
  short-scratch = refl;
  lacks-left = refl;
  lacks-right = refl;
  calls = refl;
  machine = refl;
}
