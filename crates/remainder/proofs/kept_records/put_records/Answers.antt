-- `put_records`: the records are written from the fourth byte on, then the first byte and their count before them.
use Prim.Native.Nat.{◌+◌, ◌*◌, ◌≤◌}
use native.Mathlib.Omega.{arith}
use mathlib.Core.Path.{◌≡◌}
use lib.ListN.{length}
use Rattle.byte_writer.proofs.Written.{together, together-length}
use Rattle.remainder.proofs.RecordLaws.{columns-put}
use Rattle.remainder.proofs.kept_records.put_records.Goals as goal
use Rattle.remainder.proofs.kept_records.put_records.Goals.{After-keep_records-kept}

-- The buffer keeps its length once the lent part is back.
long : (c : After-keep_records-kept)
    → let out = c.args.out.now in length
    (together 3 out c.keep_records-kept.new.out) ≡ length out
long c =
    together-length 3 c.args.out.now c.keep_records-kept.new.out (omega (arith, c.requires.all_fit.room)) c.keep_records-kept.auto.out

few : (c : After-keep_records-kept)
    → 3 + 5 * c.keep_records-kept.result ≤ length c.args.out.now
few c =
    let p = c.requires.all_fit in
    omega (arith, p.room, (c.keep_records-kept.ensures p.records p.columns p.is).out.ends)

pub returns : goal.returns
returns c =
    columns-put c.args.out.now c.keep_records-kept.new.out c.keep_records-kept.result (omega (arith, c.requires.all_fit.room))
    c.keep_records-kept.ensures
    c.put_frame_head.ensures
