-- `put_left`: without a match the frame itself, else what `put_last` writes.
use native.Mathlib.Omega.{arith}
use mathlib.Core.Path.{ap}
use lib.ListN.{length}
use Rattle.plan_writer.proofs.TableLaws.{records-within}
use Rattle.call_extract_all.proofs.AllLaws.{entries, whole-left, whole-put, last_fits, last-put}
use Rattle.call_extract_all.proofs.conjuncts.put_left.Goals as goal

pub copy_bytes-requires : goal.copy_bytes-requires
copy_bytes-requires c =
    let p = c.requires.left_fits in
    record {
      src_has_bytes = omega arith;
      out_has_room = omega (arith, p.room, ap length (whole-left p.at p.told c.if-rounds-eq0.true));
    }

pub returns-then-rounds-eq0 : goal.returns-then-rounds-eq0
returns-then-rounds-eq0 c =
    λ match F at told.
    whole-put at told c.args.out.now _ c.if-rounds-eq0.true c.copy_bytes.ensures

pub invariant_of-records : goal.invariant_of-records
invariant_of-records c =
    record { within = records-within (entries c.requires.left_fits.at) }

pub put_last-requires : goal.put_last-requires
put_last-requires c =
    let p = c.requires.left_fits in
    record {
      last_fits = last_fits p.at p.told c.if-rounds-eq0.false p.long p.room;
      of_tree = c.requires.of_tree;
    }

pub returns : goal.returns
returns c =
    λ match F at told.
    last-put at told _ _ _ c.if-rounds-eq0.false c.put_last.ensures
