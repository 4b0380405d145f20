-- Load and merge keep the table's length, so what they fill has room in it.
use Rattle.std.specs.Prelude.{if◌then◌else◌}
use Prim.Native.Nat.{ℕ, ◌≤◌}
use native.Mathlib.Omega.{arith}
use mathlib.Core.Path.{◌≡◌, refl, ap, ◌∙◌}
use mathlib.Core.Bool.{Bool, true, false, ◌&&◌}
use mathlib.Core.List.{List, ◌++◌}
use lib.ListN.{length, drop, length-append, length-drop}
use lib.Dec.{leb}
use borrow.Author.Tests.{leb-true}
use Rattle.definitions.specs.Words.Basics.{Result, ok, refused}
use Rattle.definitions.specs.Words.Expression.{Frame, Plan, empty, held, extracted}
use Rattle.definitions.specs.Bytes.Good.{nodes}
use Rattle.definitions.specs.Bytes.NodeTable.{NodeRecord, node_table}
use Rattle.definitions.specs.Calls.Base.{written_over, tabled, filled_by, new_after_load, finish_load, load}
use Rattle.definitions.specs.Bytes.Encode.{frame_bytes}
use Rattle.definitions.specs.Filter.Merge.{merge_frames, over_limits}
use Rattle.definitions.specs.Calls.Merge.{merged_frame, new_after_merge, with_table, merge}
use Rattle.theorems.proofs.NodeTables.{table-nests-by}
use Rattle.expression.specs.Filling.{Records}
use Rattle.filter_tree.proofs.Rows.{records-count}

-- The table is as long as it was.
abbrev Kept : List NodeRecord → Result Frame → Type 0
Kept table new = length (filled_by new table) ≡ length table

refused-kept : (table : List NodeRecord) (number : ℕ) → Kept table (refused number)
unfolding filled_by
refused-kept table number = refl

tabled-kept : (table : List NodeRecord) (F : Frame) → Kept table (tabled (length table) F)
unfolding tabled filled_by written_over
tabled-kept table F = go (leb (nodes F.expr) (length table)) refl
  where
    go : (b : Bool) → leb (nodes F.expr) (length table) ≡ b → Kept table (if b then ok F else refused 17)
    go false e = refl
    go true e = omega (
      arith,
      leb-true (nodes F.expr) (length table) e,
      (table-nests-by F).0,
      length-append (node_table F) (drop (length (node_table F)) table),
      length-drop (length (node_table F)) table,
    )

by-test : (table : List NodeRecord) (b : Bool) (x y : Result Frame) → Kept table x → Kept table y → Kept table (if b then x else y)
by-test table true x y p q = p
by-test table false x y p q = q

new-load-kept : (frame : List ℕ) (room : ℕ) (table : List NodeRecord) (r : Result Frame)
    → Kept table (new_after_load frame room (length table) r)
unfolding new_after_load
new-load-kept frame room table (refused number) = refused-kept table number
new-load-kept frame room table (ok F) =
    by-test table (leb (length frame) room) _ _ (tabled-kept table F) (refused-kept table 9)

finish-table : (frame : List ℕ) (n : ℕ) (buffer : List ℕ) (table : List NodeRecord) (r : Result Frame)
    → (finish_load frame n buffer table r).table ≡ filled_by r table
unfolding finish_load
finish-table frame n buffer table (ok F) = refl
finish-table frame n buffer table (refused number) = refl

pub load-keeps : (frame : List ℕ) (n : ℕ) (buffer : List ℕ) (table : List NodeRecord)
    → length (load frame n buffer table).table ≡ length table
unfolding load
load-keeps frame n buffer table = ap length (finish-table frame n buffer table _) ∙ new-load-kept frame (length buffer) table _

new-merge-kept : (n scratch room : ℕ) (table : List NodeRecord) (new : Result Frame) (old : Result Plan)
    → Kept table (new_after_merge n scratch room (length table) new old)
unfolding new_after_merge merged_frame
new-merge-kept n scratch room table (refused number) old = refused-kept table number
new-merge-kept n scratch room table (ok new) (refused number) = refused-kept table 10
new-merge-kept n scratch room table (ok new) (ok empty) = refused-kept table 11
new-merge-kept n scratch room table (ok new) (ok (extracted X)) = refused-kept table 12
new-merge-kept n scratch room table (ok new) (ok (held old)) =
    by-test table (over_limits (merge_frames old new)) _ _ (refused-kept table 16)
    (by-test table (leb n scratch && leb (length (frame_bytes (merge_frames old new))) room) _ _ (tabled-kept table (merge_frames old new))
    (refused-kept table 9))

pub merge_keeps : (frame : List ℕ) (n : ℕ) (buffer scratch : List ℕ) (table : List NodeRecord)
    → length (merge frame n buffer scratch table).table ≡ length table
unfolding merge with_table
merge_keeps frame n buffer scratch table = new-merge-kept n (length scratch) (length buffer) table _ _

-- As many records as are said have room, where the filled table is as long as the table.
pub has_room : {s : List ℕ} {root count : ℕ} {records : List NodeRecord} (table : List NodeRecord) → Records s root count records
    → length (records ++ drop count table) ≡ length table → count ≤ length table
has_room {count = count} {records = records} table so e =
    omega (arith, e, records-count so, length-append records (drop count table), length-drop count table)
