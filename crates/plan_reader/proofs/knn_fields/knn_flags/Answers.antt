-- Three fields in a row, whatever comes after them.
use mathlib.Core.Path.{◌∙◌}
use Rattle.theorems.proofs.ReaderLaws.{after}
use Rattle.plan_reader.proofs.Fields.{up_to, flag-stored, ties-stored}
use Rattle.plan_reader.proofs.knn_fields.knn_flags.Goals as goal

pub returns : goal.returns
returns c =
    let spheroid = c.in_ok-spheroid.ensures in
    let ties = c.in_ok-ties.ensures in
    let s = c.args.s.now in
    let flag = flag-stored c.in_ok-spheroid.spheroid (up_to s c.args.at c.in_ok-spheroid.second c.in_ok-spheroid.spheroid 1 spheroid.1) in
    let numbered = c.ties_numbered.ensures
    ∙ ties-stored c.in_ok-ties.ties (up_to s c.in_ok-probe_side.third c.in_ok-ties.end c.in_ok-ties.ties 2 ties.1) in
    (ties.0, λ next n. rw (flag, numbered) (after _ (spheroid.1 n) ∙ after _ (c.in_ok-probe_side.ensures.1 n) ∙ after _ (ties.1 n)))
