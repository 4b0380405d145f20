-- What the answers of load, extract and merge are as one number, and what load and merge leave to be filled.
mod TableRoom
use Rattle.std.specs.Prelude.{Result as Either, Ok, Err}
use Prim.Native.Nat.{ℕ, ◌<◌, ◌≤◌}
use native.Mathlib.Omega.{arith}
use mathlib.Core.Path.{◌≡◌, refl, sym, ap, ◌∙◌, subst}
use mathlib.Core.Bool.{true}
use mathlib.Core.List.{List, [], ◌++◌}
use lib.ListN.{length, take, drop, replicate, length-replicate}
use Rattle.definitions.specs.Words.Basics.{Result, ok, refused}
use Rattle.definitions.specs.Bytes.NodeTable.{NodeRecord, blank}
use Rattle.definitions.specs.Calls.Base.{LoadOutcome, Outcome}
use Rattle.host_calls.specs.Hosts.{hosted}
use Rattle.definitions.specs.Words.Limits.{four_bytes}
use Rattle.definitions.specs.Filter.Settings.{Settings, match_under}
use Rattle.definitions.specs.Calls.Settings.{extract_under, extract_walk_under}
use Rattle.definitions.specs.Lists.Machine.{extract_call}
use Rattle.definitions.specs.Lists.Sessions.{make_by, accepted}
use Rattle.definitions.specs.Calls.Merge.{MergeOutcome, merge}
use Rattle.definitions.specs.Bytes.Good.{AllBytes}
use Rattle.call_answers.proofs.Settling.{by-settings}
use Rattle.theorems.proofs.Proved.{lengths_short, merge-writes, walk-short, all-settings}
use Rattle.call_answers.specs.Outcomes.{Answered, answer_of, LoadIs, ExtractIs, MergeIs}
use Rattle.call_answers.specs.declared.answers.Loaded.{Loaded}
use Rattle.call_load.specs.Loads.{LoadedIs, LoadedRow}
use Rattle.call_merge.specs.Merges.{MergedIs}
use Rattle.call_merge.specs.MergedNodes.{MergedRow}
use Rattle.call_answers.specs.declared.answers.Extracted.{Extracted}
use Rattle.terms.specs.declared.refusals.Refusal.{Refusal}
use Rattle.host_calls.specs.declared.cores.HostLoaded.{HostLoaded}
use Rattle.filter_tree.proofs.NodeLaws.{nodes-below}
use Rattle.expression.specs.Filling.{Records, nothing, filled}
use Rattle.host_calls.proofs.CoreLaws.TableRoom.{load-keeps, merge_keeps, has_room}
use Rattle.host_calls.specs.Short.{ShortLength, ShortLoaded, ShortWalk}
use Rattle.host_calls.specs.Cores.{LeftBy, LoadLeft, MergeLeft}
use Rattle.host_calls.specs.Hosted.{LoadHosted, MergeHosted}
use Rattle.node_table.specs.Records.{nodes_of, RowHas, FilledIs}
use Rattle.node_table.specs.declared.NodeRecord.{NodeRecord as Lent}
use Rattle.node_table.proofs.RecordLaws.{filled-first}

-- A table of so many records.
some-table : ℕ → List NodeRecord
some-table held = replicate held blank

some-length : (held : ℕ) → length (some-table held) ≡ held
unfolding some-table
some-length held = length-replicate held blank

-- A row has all of no record.
none_has : (s : List ℕ) (row : List Lent) → RowHas s 0 0 row
none_has s row = (omega arith, all)
  where
    all : (records : List NodeRecord) → Records s 0 0 records → take 0 (nodes_of row) ≡ records
    all records (nothing e) = refl
    all records (filled {t = t} stands size few short) = absurd (omega (arith, nodes-below t))

module _ (frame before after : List ℕ) (held : ℕ) where
  pub load-short : (r : Either Loaded Refusal) → LoadedIs frame before after held r → AllBytes frame → ShortLoaded r
  load-short (Ok r) is bytes = omega (
    arith,
    lengths_short.0 frame 0 before (some-table held) r.length bytes
        (ap (λ (o : LoadOutcome). o.answer) (is.2 (some-table held) (some-length held) 0)),
  )
  load-short (Err why) is bytes = tt

-- What a call leaves in the row: nothing is asked of it after a refusal.
left-has : (s : List ℕ) (row : List Lent) (r : Either Loaded Refusal) (left : HostLoaded) → LeftBy r left
    → ((l : Loaded) → r ≡ Ok l → RowHas s l.root l.count row) → RowHas s left.root left.count row
left-has s row (Ok r) left by has = rw (by.1, by.2) (has r refl)
left-has s row (Err why) left by has = rw (by.1, by.2) (none_has s row)

pub row-left : (frame : List ℕ) (r : Either Loaded Refusal) (row : List Lent) → LoadedRow frame r row → (left : HostLoaded) → LeftBy r left
    → RowHas frame left.root left.count row
row-left frame r row has left by =
    left-has frame row r left by (λ l e. subst (λ (x : Either Loaded Refusal). LoadedRow frame x row) e has)

pub merged-left : (after : List ℕ) (r : Either Loaded Refusal) (row : List Lent) → MergedRow after r row → (left : HostLoaded)
    → LeftBy r left
    → RowHas after left.root left.count row
merged-left after r row has left by =
    left-has after row r left by (λ l e. subst (λ (x : Either Loaded Refusal). MergedRow after x row) e has)

-- A length that is answered is short.
abbrev ShortAnswer : Result ℕ → Type 0
ShortAnswer (ok m) = m ≤ 26620
ShortAnswer (refused number) = Unit {0}

short-by : (x : Result ℕ) → ((m : ℕ) → x ≡ ok m → m ≤ 16384) → ShortAnswer x
short-by (ok m) h = omega (arith, h m refl)
short-by (refused number) h = tt

answer-short : (a : Answered) → ShortAnswer (answer_of a) → ShortLength a
answer-short (Ok m) h = h
answer-short (Err why) h = tt

-- So is an extract's, and its walk, under settings whose greatest k has 32 bits.
pub extract-short : (S : Settings) (n : ℕ) (before scratch after kept : List ℕ) (table : List NodeRecord) (r : Extracted)
    → ExtractIs (extract_under S n before scratch table) (extract_walk_under S n before scratch table) n after kept r
    → S.greatest_k < four_bytes → AllBytes before → ShortWalk r
unfolding make_by
extract-short S n before scratch after kept table r is width bytes =
    let (short, few) = by-settings S n before scratch table (λ (o : Outcome) (w : ℕ). ShortAnswer o.answer × (w ≤ 2047))
    (λ g. (
      short-by _ (λ m e. (all-settings S g).one_call.short extract_call n before scratch table m bytes e),
      omega (arith, walk-short (match_under S) n before scratch table bytes),
    )) (tt, omega arith) width in (
      answer-short r.answer (subst ShortAnswer (ap (λ (o : Outcome). o.answer) is.outcome) short),
      omega (arith, is.carried, few),
    )

module _ (frame : List ℕ) (n : ℕ) (before scratch after kept : List ℕ) (held : ℕ) where
  pub merge-short : (r : Either Loaded Refusal) → MergedIs frame n before scratch after kept held r → ShortLoaded r
  merge-short (Ok r) is =
      let so = is.2 (some-table held) (some-length held) in
      let taken : accepted (merge frame n before scratch (some-table held)).answer ≡ true =
      ap (λ (o : MergeOutcome). accepted o.answer) so ∙ (unfold accepted in refl) in
      let (old, new, found, given, wrote) = merge-writes frame n before scratch (some-table held) taken in
      omega (arith, wrote.short, ap (λ (o : MergeOutcome). o.n) so)
  merge-short (Err why) is = tt

-- ---- the table

-- What a load leaves to be put is there, and the table has room for it.
module _ (frame before after : List ℕ) {held : ℕ} (left : HostLoaded) (table : List NodeRecord) (size : length table ≡ held) where
  load-room : (r : Either Loaded Refusal) → LoadedIs frame before after held r → LeftBy r left
      → left.count ≤ held
  load-room (Ok r) is by =
      let kept : length (is.0 ++ drop r.count table) ≡ length table =
      sym (ap (λ (o : LoadOutcome). length o.table) (is.2 table size 0)) ∙ load-keeps frame 0 before table in
      let room : r.count ≤ length table = has_room table is.1 kept in
      rw by.2 (omega (arith, room, size))
  load-room (Err why) is by = rw by.2 (omega arith)

  pub load-asks : LoadLeft frame before after held left → left.count ≤ held
  load-asks is = load-room is.1 is.2 is.3

  -- With the records put, the load is the definition's.
  module _ {put : List NodeRecord} (fills : FilledIs frame left.root left.count table put) where
    load-done : AllBytes frame → (r : Either Loaded Refusal) → LoadedIs frame before after held r → LeftBy r left
        → LoadHosted frame before after table put left.answer
    unfolding hosted
    load-done bytes (Ok r) is by =
        let so : FilledIs frame r.root r.count table put = rw (by.1, by.2) at fills in (
          bytes,
          Ok r.length,
          subst (λ (t : List NodeRecord). LoadIs frame before after table t (Ok r.length)) (sym (so is.0 is.1)) (is.2 table size),
          by.0,
        )
    load-done bytes (Err why) is by =
        let so : FilledIs frame 0 0 table put = rw (by.1, by.2) at fills in (
          bytes,
          Err why,
          subst (λ (t : List NodeRecord). LoadIs frame before after table t (Err why)) (sym (so [] (nothing refl))) (is table size),
          by.0,
        )

-- By the structs of a table, of which the first become the row's.
pub load-fills : (frame before after : List ℕ) {held : ℕ} (left : HostLoaded) (table : List Lent) → length (nodes_of table) ≡ held
    → LoadLeft frame before after held left → (row put : List Lent) → RowHas frame left.root left.count row
    → put ≡ take left.count row ++ drop (length (take left.count row)) table
    → LoadHosted frame before after (nodes_of table) (nodes_of put) left.answer
load-fills frame before after left table size is row put has e =
    load-done frame before after left (nodes_of table) size (filled-first frame left.root left.count row table put has e) is.0 is.1 is.2
    is.3

-- A merge likewise; the records stand in the new plan.
module _ (frame : List ℕ) (n : ℕ) (before scratch after kept : List ℕ) {held : ℕ} (left : HostLoaded)
    (table : List NodeRecord) (size : length table ≡ held) where
  merge-room : (r : Either Loaded Refusal) → MergedIs frame n before scratch after kept held r → LeftBy r left
      → left.count ≤ held
  merge-room (Ok r) is by =
      let same : length (is.0 ++ drop r.count table) ≡ length table =
      sym (ap (λ (o : MergeOutcome). length o.table) (is.2 table size)) ∙ merge_keeps frame n before scratch table in
      let room : r.count ≤ length table = has_room table is.1 same in
      rw by.2 (omega (arith, room, size))
  merge-room (Err why) is by = rw by.2 (omega arith)

  pub merge-asks : MergeLeft frame n before scratch after kept held left → left.count ≤ held
  merge-asks is = merge-room is.2 is.3 is.4

  -- With the records put, the merge is the definition's.
  module _ {put : List NodeRecord} (fills : FilledIs after left.root left.count table put) where
    -- Whatever the answer, it and what it leaves are the outcome's.
    merge-hosted : AllBytes frame → AllBytes before → (r : Answered) → left.answer ≡ hosted (answer_of r)
        → MergeIs (merge frame n before scratch table) n after kept put r
        → MergeHosted frame before (merge frame n before scratch table) after kept put left.answer
    merge-hosted bytes held_bytes r told is = (
      bytes,
      held_bytes,
      told ∙ ap hosted (sym (ap (λ (o : MergeOutcome). o.answer) is)),
      sym (ap (λ (o : MergeOutcome). o.buffer) is),
      sym (ap (λ (o : MergeOutcome). o.scratch) is),
      sym (ap (λ (o : MergeOutcome). o.table) is),
    )

    merge-done : AllBytes frame → AllBytes before → (r : Either Loaded Refusal) → MergedIs frame n before scratch after kept held r
        → LeftBy r left → MergeHosted frame before (merge frame n before scratch table) after kept put left.answer
    unfolding hosted
    merge-done bytes held_bytes (Ok r) is by =
        let so : FilledIs after r.root r.count table put = rw (by.1, by.2) at fills in
        merge-hosted bytes held_bytes (Ok r.length) by.0
        (subst (λ (t : List NodeRecord). MergeIs (merge frame n before scratch table) n after kept t (Ok r.length)) (sym (so is.0 is.1))
        (is.2 table size))
    merge-done bytes held_bytes (Err why) is by =
        let so : FilledIs after 0 0 table put = rw (by.1, by.2) at fills in
        merge-hosted bytes held_bytes (Err why) by.0
        (subst (λ (t : List NodeRecord). MergeIs (merge frame n before scratch table) n after kept t (Err why))
        (sym (so [] (nothing refl))) (is table size))

pub merge-fills : (frame : List ℕ) (n : ℕ) (before scratch after kept : List ℕ) {held : ℕ} (left : HostLoaded) (table : List Lent)
    → length (nodes_of table) ≡ held → MergeLeft frame n before scratch after kept held left → (row put : List Lent)
    → RowHas after left.root left.count row → put ≡ take left.count row ++ drop (length (take left.count row)) table
    → MergeHosted frame before (merge frame n before scratch (nodes_of table)) after kept (nodes_of put) left.answer
merge-fills frame n before scratch after kept left table size is row put has e =
    merge-done frame n before scratch after kept left (nodes_of table) size
    (filled-first after left.root left.count row table put has e) is.0 is.1 is.2 is.3 is.4
