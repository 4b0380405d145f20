-- `first_place`: it stands as far behind the items passed over as among the rest.
use mathlib.Core.Path.{ap, ◌∙◌}
use Rattle.std.specs.Prelude.{Some, None}
use Rattle.projection.specs.Chains.{place_of}
use Rattle.projection.proofs.PlaceLaws.{place-from}
use Rattle.projection.proofs.places.first_place.Goals as goal

pub returns : goal.returns
returns c =
    let a = c.args in
    let passed = c.passed_over-start.ensures in
    place-from a.items.now a.index c.passed_over-start.result passed.none passed.within (Some c.in_ok-k.k) c.in_ok-k.ensures

pub returns-in_err-k : goal.returns-in_err-k
returns-in_err-k c =
    let a = c.args in
    let passed = c.passed_over-start.ensures in
    ap place_of c.from_residual.ensures
    ∙ place-from a.items.now a.index c.passed_over-start.result passed.none passed.within None c.in_err-k.ensures
