-- `leaf_match`: the only AND-leaf below the node is the node, so its match is the first one, or there is none.
use Rattle.definitions.specs.Filter.Settings.{match_under}
use Rattle.terms.specs.Settings.{settings_of}
use Rattle.leaf_pick.specs.Picks.{wants}
use Rattle.leaf_pick.proofs.LeafLaws.{leaf-node}
use Rattle.leaf_pick.proofs.FirstLaws.{leaf-matched, leaf-lacks, no-match_lacks}
use Rattle.leaf_pick.proofs.first_match.leaf_match.Goals as goal

pub end-requires : goal.end-requires
end-requires c =
    leaf-node c.requires.leaf_there

pub returns-in-Ok : goal.returns-in-Ok
returns-in-Ok c =
    λ records u over.
    leaf-matched c.args.pass.wanted over (c.requires.of_frame records u over) _ _ (c.in-Ok.ensures records u over)
    (c.end.ensures _ u (c.requires.leaf_there.noded _ u over.tree))

pub returns-in-Err : goal.returns-in-Err
returns-in-Err c =
    λ records u over.
    leaf-lacks c.args.pass.wanted over (c.requires.of_frame records u over)
    (no-match_lacks (wants c.args.pass.wanted) c.args.filter.tree.bytes.now records
    (match_under (settings_of c.args.pass.settings) records u) c.in-Err.field-0 (c.in-Err.ensures records u over))
