-- `match_but_knn`: what is no KNN match is another match or none.
use Rattle.definitions.specs.Filter.Settings.{match_under}
use Rattle.terms.specs.Settings.{settings_of}
use Rattle.leaf_pick.specs.Picks.{is_other}
use Rattle.leaf_pick.proofs.OneWalkLeafLaws.{no-match}
use Rattle.leaf_pick.proofs.FirstLaws.{no-match_lacks}
use Rattle.leaf_pick.proofs.any_match.match_but_knn.Goals as goal

pub returns-in-Ok : goal.returns-in-Ok
returns-in-Ok c =
    λ records t over.
    let m = c.in-Ok.ensures records t over in
    (m.q, m.is, m.stands)

pub returns-in-Err : goal.returns-in-Err
returns-in-Err c =
    λ records t over.
    let match = match_under (settings_of c.args.settings) records t in
    no-match match (c.requires.no_knn records t over)
    (no-match_lacks is_other c.args.filter.tree.bytes.now records match c.in-Err.field-0 (c.in-Err.ensures records t over))
