-- `measured_in_small`: only the side that is looked at counts.
use Rattle.leaf_verdicts.proofs.LaidLaws.{index-node, pair-first, laid-sides}
use Rattle.leaf_verdicts.proofs.SmallLaws.{compares-small, compares-nothing}
use Rattle.leaf_verdicts.proofs.small_letters.measured_in_small.Goals as goal

pub after-requires : goal.after-requires
after-requires c = index-node (pair-first c.requires)

pub is_distance-requires : goal.is_distance-requires
is_distance-requires c =
    let both = laid-sides c.requires.4 _ c.after.ensures c.in-Some.ensures in
    (both.stands_measured.0, c.requires.1, both.m, both.stands_measured.1)

pub returns-in-Some : goal.returns-in-Some
returns-in-Some c =
    λ at records l r h.
    let both = laid-sides h _ c.after.ensures c.in-Some.ensures in
    compares-small _ l r both _ (c.is_distance.ensures _ records both.m both.stands_measured.1)

pub returns-in-None : goal.returns-in-None
returns-in-None c =
    λ at records l r h. compares-nothing _ l r (laid-sides h _ c.after.ensures c.in-None.ensures)
