-- `patch_columns`: the columns outside the leaf are those of what is left, and stand where they were copied to.
use lib.ListN.{length}
use Rattle.definitions.specs.Bytes.Decode.{index_below}
use Rattle.definitions.specs.Bytes.Encode.{expr_bytes}
use Rattle.byte_writer.specs.Written.{Wrote}
use Rattle.filter_tree.specs.Columns.{columns_left}
use Rattle.remainder.specs.Around.{OfLeft}
use Rattle.remainder.proofs.LeftCopies.{Patching}
use Rattle.remainder.proofs.reprojecting.patch_columns.Given as goal

abbrev pub invariant-loop-place : goal.invariant-loop-place
invariant-loop-place l =
    OfLeft (index_below (length l.to)) l.tree.bytes.now l.tree.nodes.now l.cut
    (λ e. Wrote (expr_bytes e) l.initial.out l.initial.out
    → Patching l.tree.bytes.now l.to l.cut l.at l.initial.out (columns_left l.place-iterator) l.out e)
