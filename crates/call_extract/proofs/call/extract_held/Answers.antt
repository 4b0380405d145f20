-- An extraction is refused; a frame's nodes are the first of the records.
use native.Mathlib.Omega.{arith}
use lib.Seq.{length-take-le}
use Rattle.call_answers.proofs.Walking.{extracted-refused}
use Rattle.call_extract.proofs.call.Collecting.{held-within, held-indexed}
use Rattle.call_extract.proofs.call.extract_held.Goals as goal

pub returns-in-Extraction : goal.returns-in-Extraction
returns-in-Extraction c =
    let good = rw c.in-Extraction.is at c.requires.read in
    rw c.refused.ensures (extracted-refused _ c.args.n c.args.plan.now c.args.scratch.now c.requires.n_in_bounds good.0 good.2)

pub slice_bounds-nodes-end : goal.slice_bounds-nodes-end
slice_bounds-nodes-end c =
    omega (
      arith,
      length-take-le c.in-Frame.frame.nodes c.args.nodes.now
          (held-within c.args.n c.args.plan.now _ (rw c.in-Frame.is at c.requires.read)),
    )

pub extract_frame-requires-clause-indexed : goal.extract_frame-requires-clause-indexed
extract_frame-requires-clause-indexed c =
    held-indexed c.args.n c.args.plan.now _ (rw c.in-Frame.is at c.requires.read)
