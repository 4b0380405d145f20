-- The same by the table in place of a row.
use mathlib.Core.Path.{ap}
use Rattle.std.proofs.Common.{inl}
use Rattle.definitions.specs.Bytes.Readers.{result_of}
use Rattle.definitions.specs.Bytes.Decode.{frame_body}
use Rattle.definitions.specs.Bytes.Plans.{physical_frame, frame_of}
use Rattle.node_reader.proofs.Reading.{kept}
use Rattle.frame_reader.proofs.FrameRows.{last}
use Rattle.frame_reader.proofs.Held.{frame-ends, whole-held}
use Rattle.frame_reader.proofs.Wholes.{unopened}
use Rattle.frame_reader.proofs.frames.physical_frame_held.Goals as goal

pub returns-in_err-at : goal.returns-in_err-at
unfolding frame_of physical_frame result_of
returns-in_err-at c =
    rw (kept c.from_residual.ensures) (inl (ap result_of (unopened 1 frame_body last _ (c.in_err-at.ensures 0))))

pub returns-in_err-body : goal.returns-in_err-body
returns-in_err-body c =
    let begin = c.in_ok-at.ensures in
    rw (kept c.from_residual-in_err-body.ensures)
    (frame-ends c.args.table.now c.args.s.now _ _ begin.0 (begin.2 0) _ c.in_err-body.ensures)

pub whole_frame-requires : goal.whole_frame-requires
whole_frame-requires c =
    (c.in_ok-at.at, _, c.in_ok-at.ensures.2 0, c.in_ok-body.ensures)

pub returns : goal.returns
returns c =
    whole-held c.args.table.now c.args.s.now c.whole_frame.result c.whole_frame.ensures
