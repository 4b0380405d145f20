-- `match_or_pass`: in an And, what the left side finds comes first, and the loop goes on with the right side, where the left one
-- ends.
-- A call goes to a place further on, so the measure is the bytes left.
use lib.ListN.{length}
use Rattle.definitions.specs.Filter.Settings.{match_under}
use Rattle.terms.specs.Settings.{settings_of}
use Rattle.leaf_pick.proofs.FirstLaws.{Along}
use Prim.Native.Nat.{◌-◌}
use Rattle.leaf_pick.proofs.first_match.+match_or_pass.Given as goal

abbrev pub invariant-loop-left : goal.invariant-loop-left
invariant-loop-left l =
    let f = l.filter in
    Along (match_under (settings_of l.pass.settings)) l.pass.wanted f.tree.bytes.now f.tree.nodes.now f.rec l.fn.from l.fn.parent
    l.stop l.above

abbrev pub decreases-loop-left : goal.decreases-loop-left
decreases-loop-left l =
    length l.filter.tree.bytes.now - l.stop.at

abbrev pub decreases-match_or_pass : goal.decreases-match_or_pass
decreases-match_or_pass l =
    length l.filter.tree.bytes.now - l.from.at
