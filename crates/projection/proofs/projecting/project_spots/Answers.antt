-- `project_spots`: the left ones are found and then the right ones.
use native.Mathlib.Omega.{arith}
use mathlib.Core.Path.{◌∙◌}
use lib.Seq.{length-take-le}
use Rattle.projection.proofs.ProjectionLaws.{row-begins, row_room, cut-there, left-lacks, right-lacks, both-found}
use Rattle.projection.proofs.projecting.project_spots.Goals as goal

pub slice_bounds-spots-end : goal.slice_bounds-spots-end
slice_bounds-spots-end c =
    let fits = c.requires.extraction_fits in
    row_room (c.collect_extraction-count.ensures fits.X fits.there)

pub returns-then-not-find_places : goal.returns-then-not-find_places
returns-then-not-find_places c =
    λ X there.
    left-lacks _ X there _ (row-begins (c.collect_extraction-count.ensures X there)) c.find_places.new.row c.if-not-find_places.ensures

pub returns-then-not-find_places-2 : goal.returns-then-not-find_places-2
returns-then-not-find_places-2 c =
    λ X there.
    right-lacks _ X there _ (row-begins (c.collect_extraction-count.ensures X there)) c.requires.lists_fit c.find_places.new.row
    c.if-not-find_places.ensures c.find_places-2.new.row c.if-not-find_places-2.ensures

pub returns : goal.returns
returns c =
    λ X there.
    let both = both-found _ X there _ (row-begins (c.collect_extraction-count.ensures X there)) c.requires.lists_fit c.find_places.new.row
    c.if-not-find_places.ensures c.find_places-2.new.row c.if-not-find_places-2.ensures in
    let room = row_room (c.collect_extraction-count.ensures X there) in
    let part = cut-there c.find_places-2.new.row _ c.collect_extraction-count.result
    (omega (arith, c.find_places-2.auto.row, c.find_places.auto.row, length-take-le _ c.collect_extraction-count.new.row room)) in
    (both.0, part.0, part.1 ∙ both.1)
