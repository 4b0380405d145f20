-- KNN is k, its flags and then two arguments.
use native.Mathlib.Omega.{arith}
use mathlib.Core.Path.{refl, ◌∙◌}
use Rattle.definitions.specs.Bytes.Decode.{knn_predicate}
use Rattle.theorems.proofs.ReaderLaws.{after}
use Rattle.node_reader.proofs.Standing.{all-bytes}
use Rattle.node_reader.proofs.Reading.{kept}
use Rattle.plan_reader.proofs.Fields.{k-below}
use Rattle.node_reader.proofs.Reading.{kept}
use Rattle.plan_reader.proofs.held_predicates.knn_predicate.Goals as goal

pub overflow_cast-knn : goal.overflow_cast-knn
overflow_cast-knn c =
    let a = c.args in
    omega (arith, k-below a.s.now a.at c.in_ok-k.next c.in_ok-k.k (all-bytes a.s.now c.shared_slice_known-1.given) c.in_ok-k.ensures.1)

pub returns-in_err-flags : goal.returns-in_err-flags
unfolding knn_predicate
returns-in_err-flags c =
    rw (kept c.from_residual-in_err-flags.ensures) (after _ (c.in_ok-k.ensures.1 0) ∙ c.in_err-flags.ensures _ 0)

pub returns-in_err-pair : goal.returns-in_err-pair
unfolding knn_predicate
returns-in_err-pair c =
    rw (kept c.from_residual-in_err-pair.ensures)
    (after _ (c.in_ok-k.ensures.1 0) ∙ c.in_ok-flags.ensures.1 _ 0 ∙ c.in_err-pair.ensures _)

pub returns : goal.returns
unfolding knn_predicate
returns c =
    let both = c.in_ok-pair.ensures in (
      both.0,
      _,
      record { l = both.1; r = both.2; left = both.3; right = both.4; is = refl },
      after _ (c.in_ok-k.ensures.1 0) ∙ c.in_ok-flags.ensures.1 _ 0 ∙ both.5 _,
      (refl, refl),
      both.6,
    )
