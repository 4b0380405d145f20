-- Each refusal is the definition's; a held frame is merged.
use Prim.Native.Nat.{ℕ, ◌≤◌}
use native.Mathlib.Omega.{arith}
use mathlib.Core.Path.{◌≡◌, refl}
use mathlib.Core.List.{List}
use lib.ListN.{length, take}
use Rattle.definitions.specs.Words.Basics.{ok}
use Rattle.definitions.specs.Words.Expression.{Frame}
use Rattle.definitions.specs.Bytes.NodeTable.{NodeRecord}
use Rattle.definitions.specs.Bytes.Plans.{frame_of, plan_of}
use Rattle.definitions.specs.Calls.Merge.{new_after_merge, merge}
use Rattle.terms.specs.Refusals.{number_of}
use Rattle.terms.specs.declared.refusals.Refusal.{Refusal}
use Rattle.node_reader.proofs.Reading.{kept}
use Rattle.plan_reader.specs.Plans.{NotHeld, no_bytes, no_good}
use Rattle.call_answers.proofs.Refusing.{merge-call, merge-refuses, no-room-for-n, no-plan, empty-plan, extracted-before}
use Rattle.call_merge.proofs.JoinLaws.{held_room, both-nodes, both-frames, both-join, both_have}
use Rattle.call_merge.proofs.call.merge_good.Goals as goal

-- Where neither a frame nor an extraction is held.
not-held : (frame : List ℕ) (new : Frame) → frame_of frame ≡ ok new → (n : ℕ) (plan scratch : List ℕ) → n ≤ length plan → {why : Refusal}
    → NotHeld (plan_of (take n plan)) why → (table : List NodeRecord)
    → merge frame n plan scratch table ≡ merge-refuses table n plan scratch (number_of why)
unfolding new_after_merge
not-held frame new good n plan scratch within (no_bytes e) table = empty-plan (merge-call table frame new good) n plan scratch within e
not-held frame new good n plan scratch within (no_good number e) table =
    no-plan (merge-call table frame new good) n plan scratch within number e

pub returns-then-plan-n : goal.returns-then-plan-n
unfolding new_after_merge
returns-then-plan-n g c =
    let a = c.args in (
      λ table size.
          no-room-for-n (merge-call table a.new.tree.bytes.now _ c.requires.given.given.is) a.n a.plan.now a.scratch.now c.if-plan-n.true,
      tt,
    )

pub returns-in_err-held_plan_in : goal.returns-in_err-held_plan_in
returns-in_err-held_plan_in g c =
    let a = c.args in
    rw (kept c.from_residual.ensures) (
      λ table size.
          not-held a.new.tree.bytes.now _ c.requires.given.given.is a.n a.plan.now a.scratch.now c.if-plan-n.false
          c.in_err-held_plan_in.ensures table,
      tt,
    )

pub returns-in-Extraction : goal.returns-in-Extraction
unfolding new_after_merge
returns-in-Extraction g c =
    let good = rw c.in-Extraction.is at c.in_ok-held_plan_in.ensures in (
      λ table size.
          extracted-before (merge-call table _ _ c.requires.given.given.is) _ _ _ c.if-plan-n.false (λ X. refl) good.0 good.2,
      tt,
    )

pub shared_whole_as_front-rows : goal.shared_whole_as_front-rows
shared_whole_as_front-rows g c = (
  omega (
    arith,
    c.held_plan_in.auto.row,
    held_room c.args.plan.now c.held_plan_in.new.row (rw c.in-Frame.is at c.in_ok-held_plan_in.ensures) c.if-plan-n.false
        c.requires.given,
  ),
  omega (arith, c.requires.places.1),
)

pub joined_depth-requires : goal.joined_depth-requires
joined_depth-requires g c =
    both-nodes c.args.plan.now c.held_plan_in.new.row (rw c.in-Frame.is at c.in_ok-held_plan_in.ensures) c.if-plan-n.false
    c.requires.given

pub merge_held-requires : goal.merge_held-requires
merge_held-requires g c =
    both-frames c.args.plan.now c.held_plan_in.new.row (rw c.in-Frame.is at c.in_ok-held_plan_in.ensures) c.if-plan-n.false
    c.requires.given c.joined_depth.ensures

pub put_joined-requires : goal.put_joined-requires
put_joined-requires g c =
    both-join c.args.plan.now c.held_plan_in.new.row (rw c.in-Frame.is at c.in_ok-held_plan_in.ensures) c.if-plan-n.false
    c.requires.given c.joined_depth.ensures c.in_ok-merged-in-Frame.ensures.1 _ (rw c.requires.row_length c.requires.places.0)

pub returns-in_ok-merged-in-Frame : goal.returns-in_ok-merged-in-Frame
returns-in_ok-merged-in-Frame g c =
    let merged = c.in_ok-merged-in-Frame.ensures in (
      merged.0,
      both_have c.args.plan.now c.held_plan_in.new.row (rw c.in-Frame.is at c.in_ok-held_plan_in.ensures) c.if-plan-n.false
          c.requires.given c.joined_depth.ensures merged.1 c.args.row.now c.put_joined.new.row c.put_joined.ensures,
    )
