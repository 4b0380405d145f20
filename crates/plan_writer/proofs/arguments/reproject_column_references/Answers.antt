-- `reproject_column_references`: the expression is copied, and then its columns are put with their new indexes over the copy.
use Rattle.plan_writer.proofs.Copying.{copy-room, copy-fits, copy-patched}
use Rattle.plan_writer.proofs.arguments.reproject_column_references.Goals as goal

pub copy_at-v-requires : goal.copy_at-v-requires
copy_at-v-requires c =
    copy-room c.args.to.now c.requires

pub patch_columns-requires : goal.patch_columns-requires
patch_columns-requires c =
    copy-fits c.args.to.now c.requires c.copy_at-v.ensures

pub returns : goal.returns
returns c =
    copy-patched c.args.to.now c.requires c.copy_at-v.ensures c.patch_columns.ensures
