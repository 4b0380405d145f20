-- `reproject_remainder`: three copies write the bytes of what is left, and then its columns are renumbered where they are.
use native.Mathlib.Omega.{arith}
use mathlib.Core.Path.{◌∙◌}
use Rattle.remainder.proofs.LeftCopies.{first-node, cut-short, before-room, between-room, behind-room, patch-fits, rest-wrote}
use Rattle.remainder.proofs.reprojecting.reproject_remainder.Goals as goal

pub start-requires : goal.start-requires
start-requires c = first-node c.requires.3

pub copy_at-parent-requires : goal.copy_at-parent-requires
copy_at-parent-requires c =
    before-room c.args.to.now c.requires.3 _ c.start.ensures _ c.requires.4

pub overflow_add-cut : goal.overflow_add-cut
overflow_add-cut c =
    omega (arith, c.ranges.tree, cut-short c.requires.3)

pub copy_at-leaf-requires : goal.copy_at-leaf-requires
copy_at-leaf-requires c =
    between-room c.args.to.now c.requires.3 _ c.start.ensures c.copy_at-parent.ensures c.copy_at-parent.auto.out c.requires.4

pub end-requires : goal.end-requires
end-requires c = first-node c.requires.3

pub copy_at-length-requires : goal.copy_at-length-requires
copy_at-length-requires c =
    behind-room c.args.to.now c.requires.3 _ c.start.ensures c.copy_at-parent.ensures c.copy_at-leaf.ensures _ c.end.ensures
    (c.copy_at-leaf.auto.out ∙ c.copy_at-parent.auto.out) c.requires.4

pub patch_columns-requires : goal.patch_columns-requires
patch_columns-requires c =
    patch-fits c.args.to.now c.requires.3 _ c.start.ensures c.copy_at-parent.ensures c.copy_at-leaf.ensures _ c.end.ensures
    c.copy_at-length.ensures

pub returns : goal.returns
returns c =
    λ at t e left.
    rest-wrote c.args.to.now left _ c.start.ensures c.copy_at-parent.ensures c.copy_at-leaf.ensures _ c.end.ensures
    c.copy_at-length.ensures c.patch_columns.ensures
