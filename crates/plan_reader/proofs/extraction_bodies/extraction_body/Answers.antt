-- The position in two bytes, a predicate, and then its remainder.
use mathlib.Core.Path.{refl, ◌∙◌}
use Rattle.definitions.specs.Bytes.Decode.{extraction_body}
use Rattle.theorems.proofs.ReaderLaws.{after}
use Rattle.node_reader.proofs.Standing.{all-bytes}
use Rattle.plan_reader.proofs.Extractions.{predicate-ends}
use Rattle.plan_reader.proofs.extraction_bodies.extraction_body.Goals as goal

pub returns : goal.returns
unfolding extraction_body
returns c =
    let s = c.args.s.now in
    let predicate = c.in_ok-predicated.ensures in
    let rest = c.in_ok-remainder.ensures in (
      rest.0,
      record { position = _; predicate = predicate.1; remainder = rest.1 },
      record { position = refl; predicate = predicate.2; remainder = rest.2 },
      rest.3,
      after _ (c.in_ok-position.ensures.1 0) ∙ after _ predicate.3 ∙ after _ rest.4,
      predicate-ends s c.args.at _ _ _ _ (all-bytes s c.shared_slice_known-1.given) c.requires.place.0 c.in_ok-position.ensures predicate.0
          predicate.3 predicate.4,
    )
