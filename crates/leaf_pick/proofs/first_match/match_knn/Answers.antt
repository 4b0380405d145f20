-- `match_knn`: a leaf that is no function is no KNN; a function has its own matching, of which the settings leave what they allow.
use Rattle.definitions.specs.Filter.Match.{match_leaf_by}
use Rattle.definitions.specs.Filter.Extract.{is_knn}
use Rattle.definitions.specs.Filter.Settings.{only_if, match_under}
use Rattle.terms.specs.Settings.{settings_of}
use Rattle.leaf_matching.proofs.AllowLaws.{passing-lacks}
use Rattle.leaf_pick.proofs.Nodes.{no-function}
use native.Mathlib.Omega.{arith}
use Rattle.leaf_pick.proofs.LeafLaws.{leaf-within, call-given, call-leaf}
use Rattle.leaf_pick.proofs.first_match.match_knn.Goals as goal

pub returns-in_default : goal.returns-in_default
unfolding match_under only_if
returns-in_default c =
    λ records t over.
    passing-lacks (settings_of c.args.settings) is_knn _
    (no-function c.args.leaf.node c.requires.is over.tree c.in_default.not-Call c.args.settings.default_k records).0

pub match_knn_predicate-matching-requires : goal.match_knn_predicate-matching-requires
match_knn_predicate-matching-requires c =
    let both = call-given c.requires c.in-Call.is in
    record { call_framed = both.0; of_call = both.1 }

pub returns : goal.returns
unfolding match_under only_if
returns c =
    λ records t over.
    let a = c.args in
    let k = a.settings.default_k in
    c.only_allowed.ensures is_knn a.filter.tree.bytes.now records (match_leaf_by k records t)
    (call-leaf c.requires c.in-Call.is k is_knn c.match_knn_predicate-matching.result
    c.match_knn_predicate-matching.ensures over)

pub overflow_add-leaf : goal.overflow_add-leaf
overflow_add-leaf c =
    omega (arith, leaf-within c.requires, c.well_formed)
