-- `two_geometries`: the flags of the columns of each say what is asked of their sides.
use Rattle.definitions.specs.Filter.Verdicts.{sides_of}
use Rattle.leaf_verdicts.proofs.LaidLaws.{index-node, argued, laid-argument, first-laid, second-laid, two-first, two-second}
use Rattle.leaf_verdicts.proofs.ColumnLaws.{geometries-told}
use Rattle.leaf_verdicts.proofs.geometries.two_geometries.Goals as goal

pub after-second-requires : goal.after-second-requires
after-second-requires c = index-node (two-first c.requires)

pub seen_sides-of_first-requires : goal.seen_sides-of_first-requires
seen_sides-of_first-requires c = argued (two-first c.requires)

pub seen_sides-of_second-requires : goal.seen_sides-of_second-requires
seen_sides-of_second-requires c = argued (two-second c.requires c.after-second.ensures)

pub returns : goal.returns
unfolding sides_of
returns c =
    λ at n records a b more h.
    let one = first-laid h in
    let first = c.seen_sides-of_first.ensures records a (laid-argument one) in
    let second = c.seen_sides-of_second.ensures records b (laid-argument (second-laid h c.after-second.ensures)) in
    record {
      second = c.after-second.ensures at a one.noded;
      told = λ after. rw (c.seen_reason.ensures, first, second) (geometries-told _ _ after);
    }
