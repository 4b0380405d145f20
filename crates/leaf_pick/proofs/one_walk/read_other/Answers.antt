-- `read_other`: what is remembered stays, and where nothing is the first other match is.
use Rattle.definitions.specs.Filter.Settings.{match_under}
use Rattle.terms.specs.Settings.{settings_of}
use Rattle.leaf_pick.specs.Picks.{is_other}
use Rattle.leaf_pick.proofs.OneWalkLeafLaws.{leaf-known, leaf_first, leaf-neither}
use Rattle.leaf_pick.proofs.FirstLaws.{no-match_lacks}
use Rattle.leaf_pick.proofs.one_walk.read_other.Goals as goal

pub returns-in-Some : goal.returns-in-Some
returns-in-Some c =
    λ records t over first. rw c.in-Some.is (leaf-known (c.requires.no_knn records t over) first)

pub returns-in-Ok : goal.returns-in-Ok
returns-in-Ok c =
    λ records t over first.
    rw (c.in_default.is, c.seen_here.ensures) (leaf_first c.args.leaf _ (c.in-Ok.ensures records t over) first)

pub returns-in-Err : goal.returns-in-Err
returns-in-Err c =
    λ records t over.
    leaf-neither (c.requires.no_knn records t over)
    (no-match_lacks is_other c.args.filter.tree.bytes.now records
    (match_under (settings_of c.args.settings) records t) c.in-Err.field-0 (c.in-Err.ensures records t over))
