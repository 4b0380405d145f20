-- Two arguments, and then the distance from where the second ended.
use mathlib.Core.Path.{refl, ◌∙◌}
use Rattle.definitions.specs.Bytes.Decode.{argument}
use Rattle.theorems.proofs.ReaderLaws.{after, halts}
use Rattle.node_reader.proofs.Reading.{kept}
use Rattle.frame_reader.proofs.Standing.{expr-spans}
use Rattle.plan_reader.proofs.Fields.{counted-on}
use Rattle.plan_reader.proofs.held_predicates.distance_arguments.Goals as goal

pub returns-in_err-bound : goal.returns-in_err-bound
unfolding argument
returns-in_err-bound c =
    rw (kept c.from_residual-in_err-bound.ensures) (c.in_ok-pair.ensures.5 _ ∙ halts _ c.in_err-bound.ensures)

pub returns : goal.returns
unfolding argument
returns c =
    let both = c.in_ok-pair.ensures in
    let bound = c.in_ok-bound.ensures in (
      bound.2.bytes.within,
      _,
      record { l = both.1; r = both.2; bound = bound.0; left = both.3; right = both.4; limit = expr-spans bound.2; is = refl },
      both.5 _ ∙ after _ bound.1,
      (refl, refl, refl),
      counted-on both.6 bound.2 bound.3 bound.4,
    )
