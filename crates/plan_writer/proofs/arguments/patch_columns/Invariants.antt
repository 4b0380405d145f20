-- `patch_columns`: a turn passes one node; a column's new index is put where the copy has the old one.
use Prim.Native.Nat.{◌-◌}
use Rattle.plan_writer.specs.Copies.{PatchFits}
use Rattle.plan_writer.proofs.Copying.{Patching, patched}
use Rattle.plan_writer.proofs.arguments.patch_columns.Given as goal

abbrev pub invariant-loop-next : goal.invariant-loop-next
invariant-loop-next l =
    (p : PatchFits l.src l.start l.end l.to l.w l.initial.out) → Patching l.src l.start l.end l.to l.w (patched p) l.next l.out

abbrev pub decreases-loop-next : goal.decreases-loop-next
decreases-loop-next l =
    l.end - l.next
