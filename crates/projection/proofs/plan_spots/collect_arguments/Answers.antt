-- `collect_arguments`: a relation and KNN have two arguments, a distance a third.
use Rattle.projection.proofs.plan_spots.PredicateLaws.{relation-two, knn-two, two-fit, two-collected, distance-three, distance-fits, bound-fits, three-collected}
use Rattle.projection.proofs.plan_spots.collect_arguments.Goals as goal

pub collect_both-requires : goal.collect_both-requires
collect_both-requires c =
    let fits = rw c.in-Relation.is at c.requires in
    two-fit fits (relation-two fits.there)

pub collect_both-both-requires : goal.collect_both-both-requires
collect_both-both-requires c =
    let fits = rw c.in-Distance.is at c.requires in
    distance-fits fits (distance-three fits.there)

pub collect_columns-requires : goal.collect_columns-requires
collect_columns-requires c =
    let both = c.collect_both-both in
    let fits = rw c.in-Distance.is at c.requires in
    bound-fits fits (distance-three fits.there) both.new.row both.auto.row both.result both.ensures

pub collect_both-requires-in-KNearestNeighbors : goal.collect_both-requires-in-KNearestNeighbors
collect_both-requires-in-KNearestNeighbors c =
    let fits = rw c.in-KNearestNeighbors.is at c.requires in
    two-fit fits (knn-two fits.there _ c.negate.ensures)

pub returns-in-Relation : goal.returns-in-Relation
returns-in-Relation c =
    λ P there.
    let call = c.collect_both in
    two-collected c.args.row.now call.new.row call.result
    call.ensures (relation-two (rw c.in-Relation.is at there))

pub returns-in-Distance : goal.returns-in-Distance
returns-in-Distance c =
    λ P there.
    let last = c.collect_columns in
    let both = c.collect_both-both in
    three-collected c.args.row.now both.new.row last.new.row both.result last.result
    both.ensures last.ensures (distance-three (rw c.in-Distance.is at there))

pub returns-in-KNearestNeighbors : goal.returns-in-KNearestNeighbors
returns-in-KNearestNeighbors c =
    λ P there.
    let call = c.collect_both-in-KNearestNeighbors in
    two-collected c.args.row.now call.new.row call.result
    call.ensures (knn-two (rw c.in-KNearestNeighbors.is at there) _ c.negate.ensures)
