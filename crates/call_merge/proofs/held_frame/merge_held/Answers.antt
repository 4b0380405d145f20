-- The limits, then the room; the held frame is kept in the scratch, and the merged one written from there and from the new frame.
use Prim.Native.Nat.{◌+◌, ◌≤◌}
use native.Mathlib.Omega.{arith}
use mathlib.Core.Path.{◌≡◌, refl, sym, ◌∙◌}
use mathlib.Core.Bool.{false}
use lib.ListN.{length}
use Rattle.node_reader.proofs.Standing.{all-bytes}
use Rattle.call_merge.specs.Given.{BothFrames}
use Rattle.call_merge.specs.Together.{over_together}
use Rattle.call_merge.proofs.held_frame.Merging.{Both, counts, not-empty, root-bounds, too_large, scratch-short, plan-short, table-short, Ready, merged-room, merges, merged-there}
use Rattle.call_merge.proofs.held_frame.merge_held.Goals as goal
use Rattle.call_merge.proofs.held_frame.merge_held.Goals.{After-copy_bytes, After-over_limits-over, After-shared_slice_known-1}

-- Both frames stand there.
both : (c : After-shared_slice_known-1)
    → let a = c.args in Both a.frame.now a.n a.plan.now a.parts
both c =
    record {
      frames = c.requires;
      bytes = all-bytes c.args.plan.now c.slice_known-1.given;
      frame_bytes = all-bytes c.args.frame.now c.shared_slice_known-1.given;
    }

-- There is a merged length.
some-length : (c : After-shared_slice_known-1)
    → let a = c.args in (1 ≤ a.n + length a.frame.now) × (a.n + length a.frame.now ≤ 32768)
some-length c = (not-empty (both c), omega (arith, (counts (both c)).bytes))

-- The merged expression begins past one head.
roots : (c : After-shared_slice_known-1)
    → let a = c.args in (6 ≤ a.parts.old.root + a.parts.new.root) × (a.parts.old.root + a.parts.new.root ≤ 32768)
roots c = root-bounds (both c)

-- The limits, where they are not passed.
under : (c : After-over_limits-over) → c.over_limits-over.result ≡ false
    → let a = c.args in false ≡ over_together a.n (length a.frame.now) a.parts
under c e = sym e ∙ c.over_limits-over.ensures

-- Limits and room allow it, and the old plan is kept, whatever says that both frames stand there.
ready_by : (c : After-copy_bytes) → let a = c.args in BothFrames a.n a.plan.now a.frame.now a.parts
    → Ready a.frame.now a.n a.plan.now a.scratch.now a.parts a.held c.copy_bytes.new.out
ready_by c b =
    record {
      both = (record {
        frames = b;
        bytes = all-bytes c.args.plan.now c.slice_known-1.given;
        frame_bytes = all-bytes c.args.frame.now c.shared_slice_known-1.given;
      });
      under = sym c.if-over.false ∙ c.over_limits-over.ensures;
      enough = omega (arith, c.if-scratch-n.false);
      room = omega (arith, c.if-plan-n.false);
      tabled = omega (arith, c.if-held-count.false);
      copied = c.copy_bytes.ensures;
    }

ready : (c : After-copy_bytes)
    → let a = c.args in
    Ready a.frame.now a.n a.plan.now a.scratch.now a.parts a.held c.copy_bytes.new.out
ready c = ready_by c c.requires

pub over_limits-over-requires : goal.over_limits-over-requires
over_limits-over-requires c =
    counts (both (goal.at.over_limits-over-requires c).After-shared_slice_known-1)

pub returns-then-over : goal.returns-then-over
returns-then-over c = (
  too_large (both (goal.at.returns-then-over c).After-shared_slice_known-1) _ _ (sym c.if-over.true ∙ c.over_limits-over.ensures),
  λ b. tt,
)

pub returns-then-scratch-n : goal.returns-then-scratch-n
returns-then-scratch-n c = (
  scratch-short (both (goal.at.returns-then-scratch-n c).After-shared_slice_known-1) _ _
      (under (goal.at.returns-then-scratch-n c).After-over_limits-over c.if-over.false) c.if-scratch-n.true,
  λ b. tt,
)

pub overflow_sub-n : goal.overflow_sub-n
overflow_sub-n c =
    omega (arith, some-length (goal.at.overflow_sub-n c).After-shared_slice_known-1)

pub returns-then-plan-n : goal.returns-then-plan-n
returns-then-plan-n c = (
  plan-short (both (goal.at.returns-then-plan-n c).After-shared_slice_known-1) _ _
      (under (goal.at.returns-then-plan-n c).After-over_limits-over c.if-over.false)
      (omega (arith, c.if-scratch-n.false))
      c.if-plan-n.true,
  λ b. tt,
)

pub returns-then-held-count : goal.returns-then-held-count
returns-then-held-count c = (
  table-short (both (goal.at.returns-then-held-count c).After-shared_slice_known-1) _ _
      (under (goal.at.returns-then-held-count c).After-over_limits-over c.if-over.false)
      (omega (arith, c.if-scratch-n.false))
      (omega (arith, c.if-plan-n.false)) c.if-held-count.true,
  λ b. tt,
)

pub overflow_sub-root : goal.overflow_sub-root
overflow_sub-root c =
    omega (arith, roots (goal.at.overflow_sub-root c).After-shared_slice_known-1)

pub put_merged-length-requires : goal.put_merged-length-requires
put_merged-length-requires c =
    (merged-room (ready (goal.at.put_merged-length-requires c).After-copy_bytes)).0

pub returns : goal.returns
unfolding ready_by
returns c =
    let wrote = c.put_merged-length in
    let after = (goal.at.returns c).After-copy_bytes in (
      merges (ready after) wrote.new.out wrote.result _ refl wrote.ensures,
      λ b. merged-there (ready_by after b) wrote.new.out wrote.result _ refl wrote.ensures,
    )
