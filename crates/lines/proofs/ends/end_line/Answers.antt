-- `end_line`: what the line gives is written, and it is what the state stands for afterwards.
use Prim.Native.Nat.{◌≤◌}
use lib.ListN.{length}
use mathlib.Core.Path.{refl}
use native.Mathlib.Omega.{arith}
use Rattle.lines.proofs.SessionLaws.{written-fits, line-ended}
use Rattle.lines.proofs.ends.end_line.Goals as goal
use Rattle.lines.proofs.ends.end_line.Goals.{After-length_after}

-- What is written fits its buffer.
room : (c : After-length_after) → (let put = c.put_answer-filled in put.result ≤ length put.new.out)
room c =
    let put = c.put_answer-filled in
    let call = c.answer_begun-answer in
    omega (
      arith,
      put.ensures.ends,
      put.auto.out,
      call.auto.plan,
      written-fits call.new.plan call.result (omega (arith, call.ensures.result_in_bounds, call.auto.plan)),
    )

pub put_answer-filled-requires : goal.put_answer-filled-requires
put_answer-filled-requires c =
    let call = c.answer_begun-answer in
    omega (arith, call.ensures.result_in_bounds, call.auto.plan)

pub returns : goal.returns
returns c =
    let put = c.put_answer-filled in
    let call = c.answer_begun-answer in
    record {
      makes = rw c.length_after.ensures (line-ended _ _ call.result call.ensures.by_index put.ensures
          (room (goal.at.returns c).After-length_after));
      line = refl;
      scratch = call.ensures.scratch_after;
    }
