-- `replace_join_filter_expr`: the flags are those of what is left, its records are written, and the expression over them after those.
use Prim.Native.Nat.{◌≤◌}
use native.Mathlib.Omega.{arith}
use lib.ListN.{length, replicate}
use Rattle.remainder.proofs.CutLaws.{something-left}
use Rattle.remainder.proofs.RemainderLaws.{still-unheld, clear-rows, records-fit, records-end, expr-fits, frame-put}
use Rattle.remainder.proofs.remainder.replace_join_filter_expr.Goals as goal
use Rattle.remainder.proofs.remainder.replace_join_filter_expr.Given.{Over}
use Rattle.remainder.proofs.remainder.replace_join_filter_expr.Goals.{After-put_records-w}

-- The records end within the buffer.
ended : (g : Over) (c : After-put_records-w g) → c.put_records-w.result ≤ length c.put_records-w.new.out
ended g c =
    let flags = c.collect_held in
    let p = c.requires.remainder_fits in
    let left = (something-left p.cutting c.requires.leaf_elsewhere).1 in
    let clear = clear-rows g.row.N c.args.records.count c.requires.count_bound.0 in
    omega (
      arith,
      c.put_records-w.auto.out,
      records-end p.frame c.requires.of_tree left (replicate g.row.N 0) flags.new.used p.cutting clear.0 flags.auto.used
          flags.ensures c.put_records-w.ensures p.room,
    )

-- Each call, from the one after it.

pub collect_held-requires : goal.collect_held-requires
collect_held-requires g c =
    let p = c.requires.remainder_fits in
    let left = (something-left p.cutting c.requires.leaf_elsewhere).1 in
    still-unheld p.frame c.requires.of_tree left (replicate g.row.N 0) p.cutting
    (clear-rows g.row.N c.args.records.count c.requires.count_bound.0).0
    (clear-rows g.row.N c.args.records.count c.requires.count_bound.0).2

pub invariant_of-marked : goal.invariant_of-marked
invariant_of-marked g c =
    record { flagged = omega (arith, (clear-rows g.row.N c.args.records.count c.requires.count_bound.0).0, c.collect_held.auto.used) }

pub put_records-w-requires : goal.put_records-w-requires
put_records-w-requires g c =
    let flags = c.collect_held in
    let p = c.requires.remainder_fits in
    let left = (something-left p.cutting c.requires.leaf_elsewhere).1 in
    let used = (replicate g.row.N 0) in
    let clear = clear-rows g.row.N c.args.records.count c.requires.count_bound.0 in record {
      all_fit = records-fit p.frame c.requires.of_tree left used flags.new.used p.cutting clear.0 flags.auto.used flags.ensures
          c.args.out.now p.room;
      rows_fit = clear.1;
    }

pub slice_bounds-reproject_remainder-count : goal.slice_bounds-reproject_remainder-count
slice_bounds-reproject_remainder-count g c =
    ended g (goal.at.slice_bounds-reproject_remainder-count g c).After-put_records-w

pub slice_bounds-reproject_remainder-start : goal.slice_bounds-reproject_remainder-start
slice_bounds-reproject_remainder-start g c =
    ended g (goal.at.slice_bounds-reproject_remainder-start g c).After-put_records-w

pub reproject_remainder-requires : goal.reproject_remainder-requires
reproject_remainder-requires g c =
    let flags = c.collect_held in
    let p = c.requires.remainder_fits in
    let left = (something-left p.cutting c.requires.leaf_elsewhere).1 in
    let put = c.put_records-w in
    let clear = clear-rows g.row.N c.args.records.count c.requires.count_bound.0 in
    expr-fits p.frame c.requires.of_tree left (replicate g.row.N 0) flags.new.used p.cutting clear.0 flags.auto.used flags.ensures
    put.ensures (omega (arith, put.auto.to, clear.1.numbered)) put.auto.out p.room

pub overflow_add-result : goal.overflow_add-result
overflow_add-result g c =
    let p = c.requires.remainder_fits in
    omega (
      arith,
      c.well_formed,
      p.room,
      ((let flags = c.collect_held in
          let left = (something-left p.cutting c.requires.leaf_elsewhere).1 in
          let put = c.put_records-w in
          let expr = c.reproject_remainder in
          let clear = clear-rows g.row.N c.args.records.count c.requires.count_bound.0 in
          frame-put p.frame c.requires.of_tree left (replicate g.row.N 0) flags.new.used p.cutting clear.0 flags.auto.used flags.ensures
          put.ensures
          expr.new.out expr.result (omega (arith, put.auto.to, clear.1.numbered)) expr.ensures)).0,
    )

pub returns : goal.returns
returns g c =
    λ records t up position frame cutting.
    let flags = c.collect_held in
    let left = (something-left cutting c.requires.leaf_elsewhere).1 in
    let put = c.put_records-w in
    let expr = c.reproject_remainder in
    let clear = clear-rows g.row.N c.args.records.count c.requires.count_bound.0 in
    frame-put frame c.requires.of_tree left (replicate g.row.N 0) flags.new.used cutting clear.0 flags.auto.used flags.ensures
    put.ensures
    expr.new.out expr.result (omega (arith, put.auto.to, clear.1.numbered)) expr.ensures
