-- `marked_keys`: the keys of the marked ones among the records passed are in the row, and their last bytes have flags.
use Prim.Native.Nat.{◌<◌}
use native.Mathlib.Omega.{arith}
use lib.ListN.{length}
use Rattle.remainder.proofs.KeyLaws.{filled-marked, filled-passed, ended-more}
use Rattle.remainder.proofs.record_keys.marked_keys.Goals as goal
use Rattle.remainder.proofs.record_keys.marked_keys.Goals.{then-marked-i-eq1, else-marked-i-eq1}

pub loop-i-preserved : goal.loop-i-preserved
loop-i-preserved c =
    let inv = c.loop-i.invariant in
    let less = c.loop-i-test.true in
    elim c.if-marked-i-eq1.branch [
      | then-marked-i-eq1 w ↦
          let room : c.loop-i.n < length c.loop-i.keys = omega (arith, inv.filled.row.few, inv.filled.same, c.requires.room) in
          let key = w.record_key-key in
          rw (w.keys-is, w.ends-is, w.n-is) (record {
            filled = filled-marked inv.filled less w.if-marked-i-eq1.true room key.result key.ensures;
            ended = ended-more inv.ended key.result room;
          })
      | else-marked-i-eq1 w ↦ rw (w.keys-is, w.ends-is, w.n-is) (record {
        filled = filled-passed inv.filled less w.if-marked-i-eq1.false;
        ended = inv.ended;
      })
    ]
