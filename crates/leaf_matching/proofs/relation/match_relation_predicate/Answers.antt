-- `match_relation_predicate`: the name decides what is asked, the sides of the two geometries which is stored first.
use mathlib.Core.Path.{sym, ap, ◌∙◌}
use native.Mathlib.Omega.{arith}
use Rattle.std.specs.Prelude.{Some}
use Rattle.definitions.specs.Words.Leaves.{relation_named}
use Rattle.leaf_matching.proofs.Asked.{no-relation}
use Rattle.leaf_matching.proofs.Missing.{missed}
use Rattle.leaf_matching.proofs.MatchLaws.{pair-argued}
use Rattle.leaf_matching.proofs.relation.RelationLaws.{few-lacks, Walked, relation-neither, relation-left, relation-right}
use Rattle.leaf_matching.proofs.relation.match_relation_predicate.Goals as goal
use Rattle.leaf_matching.proofs.relation.match_relation_predicate.Goals.{After-resolve_geometries-geometries}

walked : (c : After-resolve_geometries-geometries)
    → let start = c.args in
    Walked start.filter.tree.bytes.now start.filter.tree.nodes.now start.filter.rec start.i start.called
    c.resolve_geometries-geometries.result c.in_ok-relation_type.relation_type
walked c =
    record {
      named = sym (rw (c.in_ok-relation_type.ensures.ok_part, c.name.ensures) at c.from_name-named.ensures);
      enough = c.if-called-lt2.false;
      noded = c.requires.of_call;
      geometries = c.resolve_geometries-geometries.ensures;
    }

pub returns-in_err-relation_type : goal.returns-in_err-relation_type
returns-in_err-relation_type c =
    λ records name ts over.
    let none = missed _ c.from_name-named.result _ c.in_err-relation_type.ensures.value c.from_residual.ensures in
    rw none.1 (no-relation records name ts
    (ap relation_named (sym over.stands.spelling) ∙ sym (rw (none.0, c.name.ensures) at c.from_name-named.ensures)))

pub returns-then-called-lt2 : goal.returns-then-called-lt2
returns-then-called-lt2 c =
    λ records name ts over. few-lacks records name ts
    (ap relation_named (sym over.stands.spelling)
    ∙ sym (rw (c.in_ok-relation_type.ensures.ok_part, c.name.ensures) at c.from_name-named.ensures))
    (omega (arith, over.stands.row.counted))

pub resolve_geometries-geometries-requires : goal.resolve_geometries-geometries-requires
resolve_geometries-geometries-requires c =
    pair-argued c.requires.of_call c.if-called-lt2.false c.requires.call_framed

pub returns-in_err-order : goal.returns-in_err-order
returns-in_err-order c =
    λ records name ts over.
    let none = missed _ _ _ c.in_err-order.ensures.value c.from_residual-in_err-order.ensures in
    rw none.1 (relation-neither (walked (goal.at.returns-in_err-order c).After-resolve_geometries-geometries) over none.0)

pub returns-in-LeftRight : goal.returns-in-LeftRight
returns-in-LeftRight c =
    λ records name ts over. relation-left
    (walked (goal.at.returns-in-LeftRight c).After-resolve_geometries-geometries) over
    (c.in_ok-order.ensures.ok_part ∙ ap Some c.in-LeftRight.is)

pub returns-in-RightLeft : goal.returns-in-RightLeft
returns-in-RightLeft c =
    λ records name ts over. relation-right
    (walked (goal.at.returns-in-RightLeft c).After-resolve_geometries-geometries) over _ c.invert.ensures
    (c.in_ok-order.ensures.ok_part ∙ ap Some c.in-RightLeft.is)
