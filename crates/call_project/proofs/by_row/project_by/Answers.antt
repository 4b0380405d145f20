-- `project_by`: where the lists have all child indexes, the old plan is kept in the scratch and its places are put into the plan.
use lib.ListN.{length-replicate}
use Rattle.projection.proofs.ProjectedBytes.{within}
use Rattle.call_project.proofs.ProjectCall.{extraction-fits, none-such, projected}
use Rattle.call_project.proofs.by_row.project_by.Goals as goal

pub project_spots-requires : goal.project_spots-requires
project_spots-requires g c =
    record {
      extraction_fits = extraction-fits c.requires _ (length-replicate g.row.N 0);
      lists_fit = c.requires.lists;
    }

pub put_indexes-requires : goal.put_indexes-requires
put_indexes-requires g c =
    let holds = c.requires.holds in
    let are = c.in-Some.ensures holds.X holds.there in
    within c.args.n c.args.plan.now holds.fits holds.there c.requires.lists c.project_spots.new.row are

pub returns-in_default : goal.returns-in_default
returns-in_default g c =
    let a = c.args in
    let holds = c.requires.holds in
    none-such a.n a.plan.now a.scratch.now a.left.now a.right.now holds c.requires.lists c.requires.scratched
    (c.in_default.ensures holds.X holds.there)

pub returns : goal.returns
returns g c =
    let put = c.put_indexes in
    let copy = c.copy_bytes in
    let a = c.args in
    let holds = c.requires.holds in
    let are = c.in-Some.ensures holds.X holds.there in
    projected a.n a.plan.now a.scratch.now a.left.now a.right.now holds c.requires.lists c.requires.scratched
    c.project_spots.new.row _ are put.new.plan copy.new.out put.ensures copy.ensures
