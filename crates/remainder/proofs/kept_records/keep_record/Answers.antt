-- `keep_record`: a record that stays is copied after those kept, any other changes nothing.
use Prim.Native.Nat.{◌+◌, ◌*◌, ◌≤◌}
use native.Mathlib.Omega.{arith}
use lib.ListN.{length}
use Rattle.byte_writer.proofs.Written.{behind-length}
use Rattle.remainder.proofs.RecordLaws.{one-within, one-room, one_kept, none_kept}
use Rattle.remainder.proofs.kept_records.keep_record.Goals as goal
use Rattle.remainder.proofs.kept_records.keep_record.Goals.{Then-is_referenced}

room : (c : Then-is_referenced) → let args = c.args in 5 * args.kept + 5 ≤ length args.out.now
room c = one-room c.requires (rw c.if-is_referenced.true at c.is_referenced.ensures)

within : (c : Then-is_referenced)
    → let args = c.args in let records = args.keyed.marked.records in records.rec + 5 * args.j + 5 ≤ length records.src.now
within c = one-within c.requires

pub overflow_mul-j : goal.overflow_mul-j
overflow_mul-j c =
    omega (arith, within (goal.at.overflow_mul-j c).Then-is_referenced)

pub overflow_add-records : goal.overflow_add-records
overflow_add-records c =
    omega (arith, within (goal.at.overflow_add-records c).Then-is_referenced)

pub copy_bytes-requires : goal.copy_bytes-requires
copy_bytes-requires c =
    let args = c.args in
    record {
      src_has_bytes = within (goal.at.copy_bytes-requires c).Then-is_referenced;
      out_has_room = omega (arith, room (goal.at.copy_bytes-requires c).Then-is_referenced, behind-length (5 * args.kept) args.out.now);
    }

pub returns-then-is_referenced : goal.returns-then-is_referenced
returns-then-is_referenced c =
    let copy = c.copy_bytes in
    one_kept c.args.j c.args.kept c.args.out.now copy.new.out copy.ensures c.requires.below
    (rw c.if-is_referenced.true at c.is_referenced.ensures)

pub returns : goal.returns
returns c =
    let args = c.args in
    none_kept args.j args.kept args.out.now (rw c.if-is_referenced.false at c.is_referenced.ensures)
