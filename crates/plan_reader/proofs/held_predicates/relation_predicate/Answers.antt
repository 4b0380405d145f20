-- A relation is its type and then two arguments.
use mathlib.Core.Path.{refl, sym, ap, ◌∙◌}
use Rattle.definitions.specs.Words.Expression as tree
use Rattle.definitions.specs.Bytes.Decode.{relation_predicate}
use Rattle.theorems.proofs.ReaderLaws.{after}
use Rattle.node_reader.proofs.Reading.{kept}
use Rattle.node_reader.proofs.Reading.{kept}
use Rattle.plan_reader.proofs.held_predicates.relation_predicate.Goals as goal

pub returns-in_err-pair : goal.returns-in_err-pair
unfolding relation_predicate
returns-in_err-pair c =
    rw (kept c.from_residual-in_err-pair.ensures) (after _ (c.in_ok-number.ensures.1 0) ∙ c.in_err-pair.ensures _)

pub returns : goal.returns
unfolding relation_predicate
returns c =
    let both = c.in_ok-pair.ensures in
    let same = ap (λ (x : tree.Relation). tree.relation x both.1 both.2) (sym c.from.ensures) in (
      both.0,
      _,
      record { l = both.1; r = both.2; left = both.3; right = both.4; is = same },
      after _ (c.in_ok-number.ensures.1 0) ∙ both.5 _,
      (refl, refl),
      both.6,
    )
