-- `put_pruned_in`: the flags are those of the expression, its records are written, and the expression over them after those.
use native.Mathlib.Omega.{arith}
use lib.ListN.{replicate}
use Rattle.remainder.proofs.RemainderLaws.{clear-rows}
use Rattle.remainder.proofs.pruned.PrunedLaws.{plain-flagged, records-fit, expr-room, frame-put}
use Rattle.remainder.proofs.pruned.put_pruned_in.Goals as goal

pub collect_column_references-requires : goal.collect_column_references-requires
collect_column_references-requires g c =
    let p = c.requires.pruned_fits in
    plain-flagged p.frame p.ends (replicate g.row.N 0) (clear-rows g.row.N c.args.records.count c.requires.count_bound.0).0

pub invariant_of-marked : goal.invariant_of-marked
invariant_of-marked g c =
    record {
      flagged = omega
          (arith, (clear-rows g.row.N c.args.records.count c.requires.count_bound.0).0, c.collect_column_references.auto.used);
    }

pub put_records-w-requires : goal.put_records-w-requires
put_records-w-requires g c =
    let flags = c.collect_column_references in
    let p = c.requires.pruned_fits in
    let used = (replicate g.row.N 0) in
    let clear = clear-rows g.row.N c.args.records.count c.requires.count_bound.0 in record {
      all_fit = records-fit p.frame p.ends used flags.new.used clear.0 clear.2 flags.auto.used flags.ensures c.args.out.now p.room;
      rows_fit = clear.1;
    }

pub reproject_column_references-requires : goal.reproject_column_references-requires
reproject_column_references-requires g c =
    let flags = c.collect_column_references in
    let p = c.requires.pruned_fits in
    let put = c.put_records-w in
    let clear = clear-rows g.row.N c.args.records.count c.requires.count_bound.0 in
    expr-room p.frame p.ends (replicate g.row.N 0) flags.new.used clear.0 clear.2 flags.auto.used flags.ensures
    put.ensures (omega (arith, put.auto.to, clear.1.numbered)) put.auto.out p.room

pub returns : goal.returns
returns g c =
    λ records e frame ends.
    let flags = c.collect_column_references in
    let put = c.put_records-w in
    let clear = clear-rows g.row.N c.args.records.count c.requires.count_bound.0 in
    frame-put frame ends (replicate g.row.N 0) flags.new.used clear.0 clear.2 flags.auto.used flags.ensures
    put.ensures (omega (arith, put.auto.to, clear.1.numbered)) c.reproject_column_references.ensures
