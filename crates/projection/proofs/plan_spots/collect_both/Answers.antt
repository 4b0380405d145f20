-- `collect_both`: the second is collected from where the first ended.
use Rattle.terms.specs.Sides.{join_side}
use Rattle.projection.proofs.BothLaws.{first_fits, second_fits, both-collected}
use Rattle.projection.proofs.plan_spots.collect_both.Goals as goal

pub collect_columns-first-requires : goal.collect_columns-first-requires
collect_columns-first-requires c =
    first_fits c.requires

pub collect_columns-requires : goal.collect_columns-requires
collect_columns-requires c =
    let first = c.collect_columns-first in
    second_fits c.requires first.new.row first.auto.row first.result first.ensures

pub returns : goal.returns
returns c =
    let second = c.collect_columns in
    let first = c.collect_columns-first in
    let args = c.args in
    both-collected (join_side args.one) (join_side args.two) args.row.now first.new.row second.new.row first.result
    second.result first.ensures second.ensures
