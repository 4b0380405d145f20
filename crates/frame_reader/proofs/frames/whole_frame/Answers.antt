-- The end comes after the body, and the arity is tested last.
use native.Mathlib.Omega.{arith}
use mathlib.Core.Path.{sym, ap, ◌∙◌}
use lib.ListN.{length-take}
use Rattle.definitions.specs.Bytes.Readers.{result_of}
use Rattle.definitions.specs.Bytes.Decode.{frame_body}
use Rattle.definitions.specs.Bytes.Plans.{physical_frame, frame_of}
use Rattle.theorems.proofs.ReaderLaws.{passes, fails}
use Rattle.frame_reader.proofs.Standing.{expr-stands}
use Rattle.frame_reader.proofs.FrameRows.{last, body-noded, body-within, body-node, frame-up-to}
use Rattle.frame_reader.proofs.Wholes.{ends, goes_on}
use Rattle.frame_reader.proofs.frames.whole_frame.Goals as goal

pub returns-then-body-s : goal.returns-then-body-s
unfolding frame_of physical_frame result_of
returns-then-body-s c =
    let r = c.requires in
    ap result_of (goes_on 1 frame_body last _ r.0 _ r.2 _ _ _ r.3.2 r.3.0 c.if-body-s.true)

pub slice_bounds-tree-end : goal.slice_bounds-tree-end
slice_bounds-tree-end c =
    omega (arith, body-within c.args.nodes.now _ _ c.requires.3, length-take c.args.body.count c.args.nodes.now)

pub all_have_arguments-requires : goal.all_have_arguments-requires
all_have_arguments-requires c =
    body-node c.args.nodes.now _ _ c.requires.3

pub returns-then-not-all_have_arguments : goal.returns-then-not-all_have_arguments
unfolding frame_of physical_frame result_of
returns-then-not-all_have_arguments c =
    let r = c.requires in
    let read = r.3 in
    let short = sym (c.all_have_arguments.ensures _ _ _ (expr-stands read.3.expr) (body-noded c.args.nodes.now _ _ read))
    ∙ c.if-not-all_have_arguments.true in
    ap result_of (ends 1 frame_body last _ r.0 _ r.2 _ _ _ read.2 c.if-body-s.false ∙ fails 8 _ _ _ short)

pub returns : goal.returns
unfolding frame_of physical_frame result_of
returns c =
    let r = c.requires in
    let read = r.3 in
    let end = c.if-body-s.false in
    let enough = sym (c.all_have_arguments.ensures _ _ _ (expr-stands read.3.expr) (body-noded c.args.nodes.now _ _ read))
    ∙ c.if-not-all_have_arguments.false in (
      read.1,
      frame-up-to end read.3,
      ap result_of (ends 1 frame_body last _ r.0 _ r.2 _ _ _ read.2 end ∙ passes 8 _ _ _ enough),
      read.6,
    )
