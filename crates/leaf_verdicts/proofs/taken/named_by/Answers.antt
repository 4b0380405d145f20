-- `named_by`: the position of a byte tells it and its place.
use lib.Dec.{leb, eqb}
use mathlib.Core.Option as optional
use borrow.Author.Tests.{eqb-true}
use Rattle.definitions.specs.Filter.Verdicts as definitions
use Rattle.leaf_verdicts.proofs.taken.TakenLaws.{found, missing}
use Rattle.leaf_verdicts.proofs.taken.named_by.Goals as goal

pub returns-in-Some : goal.returns-in-Some
unfolding definitions.named_by optional.or_else
returns-in-Some c =
    let at = found (λ b. eqb b 19) c.args.bytes.now c.in-Some.position c.in-Some.ensures in
    rw (at.2, eqb-true _ _ at.1)

pub returns-in_err-position : goal.returns-in_err-position
unfolding definitions.named_by optional.or_else
returns-in_err-position c =
    rw (
      missing (λ b. eqb b 19) c.args.bytes.now (rw c.in_default.is at c.first_knn.ensures),
      missing (λ b. leb b 19) c.args.bytes.now c.in_err-position.ensures,
      c.from_residual.ensures,
    )

pub returns : goal.returns
unfolding definitions.named_by optional.or_else
returns c =
    let at = found (λ b. leb b 19) c.args.bytes.now c.in_ok-position.position c.in_ok-position.ensures in
    rw (missing (λ b. eqb b 19) c.args.bytes.now (rw c.in_default.is at c.first_knn.ensures), at.2)
