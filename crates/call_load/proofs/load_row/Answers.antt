-- A good frame with room is copied, and its nodes are told; each refusal is the frame's own, then 9 for the room, then 17 for the table.
mod Loading
use native.Mathlib.Omega.{arith}
use Rattle.node_reader.proofs.Reading.{kept}
use Rattle.node_reader.proofs.Standing.{all-bytes}
use Rattle.call_load.proofs.load_row.Answers.Loading.{load-refuses, load-short, load-untabled, load-copies, frame_has}
use Rattle.call_load.proofs.load_row.Goals as goal

pub returns-in_err-f : goal.returns-in_err-f
returns-in_err-f c =
    rw (kept c.from_residual.ensures) (load-refuses _ _ _ _ c.in_err-f.ensures, tt)

pub returns-then-plan-length : goal.returns-then-plan-length
returns-then-plan-length c =
    let good = c.in_ok-f.ensures in
    (load-short _ _ _ good.0 good.2 c.if-plan-length.true, tt)

pub returns-then-held-count : goal.returns-then-held-count
returns-then-held-count c =
    let good = c.in_ok-f.ensures in
    (load-untabled _ _ _ good.0 good.2 c.if-plan-length.false (omega (arith, good.1.sized, c.if-held-count.true)), tt)

pub returns : goal.returns
returns c =
    let good = c.in_ok-f.ensures in
    let a = c.args in (
      load-copies a.frame.now a.plan.now a.held good.0 good.2 c.if-plan-length.false _ good.1
          (all-bytes a.frame.now c.shared_slice_known-1.given) c.if-held-count.false c.copy_bytes.new.out
          c.copy_bytes.ensures,
      frame_has a.row.now c.physical_frame_in.new.row c.requires c.physical_frame_in.auto.row good.1
          (all-bytes a.frame.now c.shared_slice_known-1.given) good.2 good.3,
    )
