-- Up to its limit project is accepted: by computation, as its other answers beside the definitions.
use mathlib.Core.Path.{refl}
use Rattle.definitions.specs.Rows.Project.{ProjectRows}
use Rattle.definitions.proofs.Everything.{everything}
use Rattle.definitions.proofs.Rows.Project.{project-answers-hold}

pub project-rows-hold : ProjectRows
unfolding everything
project-rows-hold = record { answers = project-answers-hold; longest = refl }
