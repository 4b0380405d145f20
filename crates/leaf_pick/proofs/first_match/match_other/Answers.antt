-- `match_other`: a relation and a distance match with any default k as with 1; the settings leave what they allow.
use Rattle.definitions.specs.Filter.Match.{match_leaf_by}
use Rattle.definitions.specs.Filter.Settings.{only_if, match_under}
use Rattle.leaf_pick.specs.Picks.{is_other}
use Rattle.leaf_pick.proofs.first_match.Defaults.{other-default}
use Rattle.leaf_pick.proofs.first_match.match_other.Goals as goal

pub returns : goal.returns
unfolding match_under only_if
returns c =
    λ records t over.
    let found = c.match_relation_or_distance in
    let f = c.args.filter in
    let k = c.args.settings.default_k in
    c.only_allowed.ensures is_other f.tree.bytes.now records (match_leaf_by k records t)
    (other-default 1 k f.tree.bytes.now records t found.result (found.ensures records t over))
