-- Of the numbers that four bytes hold only 0 is no k.
use mathlib.Core.Path.{◌∙◌}
use Rattle.definitions.specs.Bytes.Decode.{k_field}
use Rattle.theorems.proofs.KLaws.{is-k, zero-no-k}
use Rattle.theorems.proofs.ReaderLaws.{after, passes, fails}
use Rattle.node_reader.proofs.Standing.{all-bytes}
use Rattle.plan_reader.proofs.Fields.{four-bytes}
use Rattle.plan_reader.proofs.knn_fields.k_field.Goals as goal

pub returns-then-k-eq0 : goal.returns-then-k-eq0
unfolding k_field
returns-then-k-eq0 c =
    λ n. after _ (c.in_ok-k.ensures.1 n) ∙ fails 4 _ n _ (zero-no-k _ c.if-k-eq0.true)

pub returns : goal.returns
unfolding k_field
returns c =
    let a = c.args in
    let read = c.in_ok-k.ensures in
    let few = four-bytes a.s.now a.at c.in_ok-k.next c.in_ok-k.k (all-bytes a.s.now c.shared_slice_known-1.given) read.1 in
    (read.0, λ n. after _ (read.1 n) ∙ passes 4 _ n _ (is-k c.in_ok-k.k c.if-k-eq0.false few))
