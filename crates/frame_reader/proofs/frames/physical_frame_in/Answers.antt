-- A frame of the sort 1: its body is the frame's, and there was room for it in the row.
use native.Mathlib.Omega.{arith}
use mathlib.Core.Path.{ap}
use Rattle.definitions.specs.Bytes.Readers.{result_of}
use Rattle.definitions.specs.Bytes.Decode.{frame_body}
use Rattle.definitions.specs.Bytes.Plans.{physical_frame, frame_of}
use Rattle.node_reader.proofs.Reading.{kept}
use Rattle.frame_reader.proofs.FrameRows.{last, opened-short, body-recorded}
use Rattle.frame_reader.proofs.Wholes.{unopened, body-stops}
use Rattle.frame_reader.proofs.frames.physical_frame_in.Goals as goal

pub frame_body-requires : goal.frame_body-requires
frame_body-requires c =
    let begin = c.in_ok-at.ensures in
    (begin.0, omega (arith, opened-short 1 _ _ _ (begin.2 0)))

pub returns-in_err-at : goal.returns-in_err-at
unfolding frame_of physical_frame result_of
returns-in_err-at c =
    rw (kept c.from_residual.ensures) (ap result_of (unopened 1 frame_body last _ (c.in_err-at.ensures 0)))

pub returns-in_err-body : goal.returns-in_err-body
unfolding frame_of physical_frame result_of
returns-in_err-body c =
    rw (kept c.from_residual-in_err-body.ensures)
    (ap result_of (body-stops 1 frame_body last _ c.in_ok-at.at _ (c.in_ok-at.ensures.2 0) c.in_err-body.ensures))

pub whole_frame-requires : goal.whole_frame-requires
whole_frame-requires c = (
  c.in_ok-at.at,
  _,
  c.in_ok-at.ensures.2 0,
  body-recorded c.args.row.now c.frame_body.new.row c.requires c.frame_body.auto.row _ _ c.in_ok-body.ensures,
)
