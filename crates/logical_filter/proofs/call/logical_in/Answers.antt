-- A good frame's names and query side are those of the expression that stands in it and has the row's first records; a refusal is the
-- frame's own.
use native.Mathlib.Omega.{arith}
use lib.ListN.{length-take}
use Rattle.std.proofs.lemmas.Result.{err_from_is_err_and}
use Rattle.frame_reader.proofs.Standing.{expr-stands}
use Rattle.logical_filter.proofs.call.Naming.{logical-refuses, logical-finds, read-within, read-noded}
use Rattle.logical_filter.proofs.call.logical_in.Goals as goal

pub returns-in_err-read : goal.returns-in_err-read
returns-in_err-read c =
    let p = err_from_is_err_and c.from_residual.result c.from_residual.ensures.1 in
    rw (p.1, p.2) (logical-refuses _ _ c.in_err-read.ensures)

pub slice_bounds-tree-end : goal.slice_bounds-tree-end
slice_bounds-tree-end c = read-within _ c.logical_frame_in.new.row c.in_ok-read.ensures

pub slice_bounds-tree-end-2 : goal.slice_bounds-tree-end-2
slice_bounds-tree-end-2 c =
    let row = c.logical_frame_in.new.row in
    omega (arith, read-within _ row c.in_ok-read.ensures, length-take c.in_ok-read.read.nodes row)

pub collect_spatial_predicate_names-all-requires : goal.collect_spatial_predicate_names-all-requires
collect_spatial_predicate_names-all-requires c =
    let good = c.in_ok-read.ensures in
    (_, _, good.0, expr-stands good.1, read-noded _ c.logical_frame_in.new.row good)

pub find_knn_query_side-side-requires : goal.find_knn_query_side-side-requires
find_knn_query_side-side-requires c =
    let good = c.in_ok-read.ensures in
    let noded = read-noded _ c.logical_frame_in.new.row good in
    (_, (c.collect_spatial_predicate_names-all.ensures _ _ good.0 (expr-stands good.1) noded).knn)

pub returns : goal.returns
returns c =
    let good = c.in_ok-read.ensures in
    let noded = read-noded _ c.logical_frame_in.new.row good in
    let found = c.collect_spatial_predicate_names-all.ensures _ _ good.0 (expr-stands good.1) noded in
    logical-finds _ good.0 good.2 _ _ found.names (c.find_knn_query_side-side.ensures _ found.knn)
