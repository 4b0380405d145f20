-- `match_knn_predicate`: the geometries and the options are read where the definitions take them from the arguments.
use native.Mathlib.Omega.{arith}
use mathlib.Core.Path.{ap, ◌∙◌}
use mathlib.Core.Logic.{⊎_elim}
use Rattle.std.specs.Prelude.{Some}
use Rattle.definitions.specs.Words.Basics.{ascii}
use Rattle.leaf_matching.proofs.Asked.{other_name}
use Rattle.leaf_matching.proofs.MatchLaws.{pair-argued, rest-trees, named}
use Rattle.leaf_matching.proofs.Missing.{missed}
use Rattle.leaf_matching.proofs.knn.KnnLaws.{few-lacks, many-lacks, Walked, knn-unread, knn-neither, knn-left, knn-right}
use Rattle.leaf_matching.proofs.knn.match_knn_predicate.Goals as goal
use Rattle.leaf_matching.proofs.knn.match_knn_predicate.Goals.{After-knn_options-given, in-LeftRight, in-RightLeft}

walked : (c : After-knn_options-given)
    → let start = c.args in
    Walked start.default_k start.filter.tree.bytes.now start.filter.tree.nodes.now start.filter.rec start.i start.called
    c.resolve_geometries-geometries.result
    c.knn_options-given.result
unfolding ascii
walked c =
    record {
      same = (rw c.name.ensures at c.if-not-same_name.ensures);
      enough = c.if-called-lt2.false;
      noded = c.requires.of_call;
      geometries = c.resolve_geometries-geometries.ensures;
      options = c.knn_options-given.ensures;
    }

pub returns-then-not-same_name : goal.returns-then-not-same_name
unfolding ascii
returns-then-not-same_name c =
    λ records name ts over. other_name _ records name ts (named over _ (ascii "st_knn") (rw c.name.ensures at c.if-not-same_name.ensures))

pub returns-then-called-lt2 : goal.returns-then-called-lt2
unfolding ascii
returns-then-called-lt2 c =
    λ records name ts over.
    let same = named over _ (ascii "st_knn") (rw c.name.ensures at c.if-not-same_name.ensures) in
    ⊎_elim (λ w. few-lacks _ records name ts same (omega (arith, w, over.stands.row.counted)))
    (λ w. many-lacks _ records name ts same (omega (arith, w, over.stands.row.counted))) c.then-called-lt2.either

pub resolve_geometries-geometries-requires : goal.resolve_geometries-geometries-requires
resolve_geometries-geometries-requires c =
    pair-argued c.requires.of_call c.if-called-lt2.false c.requires.call_framed

pub knn_options-given-requires-clause-trees : goal.knn_options-given-requires-clause-trees
knn_options-given-requires-clause-trees c =
    rest-trees c.requires.of_call c.if-called-lt2.false _ c.resolve_geometries-geometries.ensures c.requires.call_framed

pub returns-in_err-options : goal.returns-in_err-options
returns-in_err-options c =
    λ records name ts over.
    let none = missed _ _ _ c.in_err-options.ensures.value c.from_residual.ensures in
    rw none.1 (knn-unread (walked (goal.at.returns-in_err-options c).After-knn_options-given) over none.0)

pub returns-in_err-order : goal.returns-in_err-order
returns-in_err-order c =
    λ records name ts over.
    let none = missed _ _ _ c.in_err-order.ensures.value c.from_residual-in_err-order.ensures in
    rw none.1 (knn-neither (walked (goal.at.returns-in_err-order c).After-knn_options-given) over _ c.in_ok-options.ensures.ok_part none.0)

pub returns : goal.returns
returns c =
    λ records name ts over.
    let w = walked (goal.at.returns c).After-knn_options-given in
    elim c.match-order.branch [
      | in-LeftRight v ↦ rw v.probe_side-is
          (knn-left w over _ c.in_ok-options.ensures.ok_part (c.in_ok-order.ensures.ok_part ∙ ap Some v.in-LeftRight.is))
      | in-RightLeft v ↦ rw v.probe_side-is
          (knn-right w over _ c.in_ok-options.ensures.ok_part (c.in_ok-order.ensures.ok_part ∙ ap Some v.in-RightLeft.is))
    ]
