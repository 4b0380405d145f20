-- When merge is accepted, what it writes, and that it leaves a session of the merged frame.
use Rattle.std.specs.Prelude.{if◌then◌else◌}
use Prim.Native.Nat.{ℕ, ◌≤◌}
use native.Mathlib.Omega.{arith}
use mathlib.Core.Path.{◌≡◌, refl, sym, ap₂, ◌∙◌, subst}
use mathlib.Core.Bool.{Bool, true, false, ◌&&◌, not, false≢true}
use mathlib.Core.List.{List}
use lib.ListN.{length}
use lib.Dec.{leb}
use borrow.Author.Tests.{leb-true}
use Rattle.definitions.specs.Words.Basics.{Result, ok, refused, map_result}
use Rattle.definitions.specs.Words.Expression.{Frame, Extraction, Plan, empty, held, extracted}
use Rattle.definitions.specs.Bytes.Encode.{frame_bytes}
use Rattle.definitions.specs.Bytes.Plans.{frame_of}
use Rattle.definitions.specs.Filter.Extract.{Matcher}
use Rattle.definitions.specs.Calls.Base.{tabled, filled_by, finish, held_plan}
use Rattle.definitions.specs.Filter.Exchange.{exchange_frame, exchange_extraction, exchange_plan}
use Rattle.definitions.specs.Lists.Machine.{Bits, machine_plan}
use Rattle.definitions.specs.Bytes.Good.{nodes, GoodPlan}
use Rattle.definitions.specs.Bytes.NodeTable.{NodeRecord}
use Rattle.definitions.specs.Lists.Sessions.{Made, ListOutcome, calls_run_by, machine_after_by, accepted, after}
use Rattle.definitions.specs.Meaning.Values.{Meaning}
use Rattle.definitions.specs.Meaning.Matchers.{Lawful}
use Rattle.definitions.specs.Claims.Calls.{CallWrote}
use Rattle.definitions.specs.Claims.Lists.{AgreeBy}
use Rattle.definitions.specs.Filter.Merge.{merge_frames, over_limits}
use Rattle.definitions.specs.Calls.Merge.{merged_frame, new_after_merge, MergeOutcome, with_table, merge}
use Rattle.definitions.specs.Lists.History.{held_now}
use Rattle.definitions.specs.Claims.Merge.{MergeAccepted, MergeWrote, MergeWrites, MergeKeeps, LeftBy, MergeHolds, merge_after, ListAfterMergeBy}
use Rattle.theorems.proofs.Tools.{and-both}
use Rattle.theorems.proofs.InverseFrame.{same_ok, frame_back}
use Rattle.theorems.proofs.Lengths.{Good, held-good, held-is}
use Rattle.theorems.proofs.Changes.{over_first, fills, finish-wrote}
use Rattle.theorems.proofs.Lists.{Reached, Holds, bits, plan-extracted, held-plan, plan-good}
use Rattle.theorems.proofs.ListTheorem.{written_held, after-all, list-agrees}
use Rattle.theorems.proofs.Answers.{told, bits-told}
use Rattle.theorems.proofs.Merged.{within-limits, good-merged}

-- ---- exactly when

-- Limits and room decide, once both frames are known.
limits-decide : (n : ℕ) (buffer scratch : List ℕ) (M : Frame) (over room places : Bool)
    → accepted (finish n buffer scratch
    (map_result frame_bytes (if over then refused 16 else if room then (if places then ok M else refused 17) else refused 9))).answer
    ≡ (not over && (room && places))
unfolding finish accepted
limits-decide n buffer scratch M true room places = refl
limits-decide n buffer scratch M false true true = refl
limits-decide n buffer scratch M false true false = refl
limits-decide n buffer scratch M false false places = refl

pub merge-accepts : MergeAccepted
unfolding merge with_table new_after_merge merged_frame tabled
merge-accepts frame n buffer scratch table old new given found =
    ap₂ (λ (r : Result Frame) (p : Result Plan).
    accepted (finish n buffer scratch (map_result frame_bytes
    (new_after_merge n (length scratch) (length buffer) (length table) r p))).answer)
    given found
    ∙ limits-decide n buffer scratch (merge_frames old new) (over_limits (merge_frames old new))
    (leb n (length scratch) && leb (length (frame_bytes (merge_frames old new))) (length buffer))
    (leb (nodes (merge_frames old new).expr) (length table))

-- ---- an accepted merge

module _ (n : ℕ) (buffer scratch : List ℕ) (table : List NodeRecord) where
  -- What a merge leaves, by the frame that it made.
  abbrev leaves : Result Frame → MergeOutcome
  leaves x = with_table (finish n buffer scratch (map_result frame_bytes x)) (filled_by x table)

  -- What an accepted one found of these two frames, and what it left.
  record Joins (r : Result Frame) (p : Result Plan) (old new : Frame) : Type 0 where
    found : p ≡ ok (held old)
    given : r ≡ ok new
    under : over_limits (merge_frames old new) ≡ false
    kept : n ≤ length scratch
    fits : length (frame_bytes (merge_frames old new)) ≤ length buffer
    enough : nodes (merge_frames old new).expr ≤ length table
    done : leaves (new_after_merge n (length scratch) (length buffer) (length table) r p) ≡ leaves (ok (merge_frames old new))

  joins-by : (old new : Frame) (over room places : Bool) → over_limits (merge_frames old new) ≡ over
      → (leb n (length scratch) && leb (length (frame_bytes (merge_frames old new))) (length buffer)) ≡ room
      → leb (nodes (merge_frames old new).expr) (length table) ≡ places
      → accepted (finish n buffer scratch (map_result frame_bytes
      (if over then refused 16 else if room then (if places then ok (merge_frames old new) else refused 17) else refused 9))).answer ≡ true
      → Joins (ok new) (ok (held old)) old new
  unfolding finish accepted new_after_merge merged_frame tabled
  joins-by old new true room places e f g a = absurd (false≢true a)
  joins-by old new false false places e f g a = absurd (false≢true a)
  joins-by old new false true false e f g a = absurd (false≢true a)
  joins-by old new false true true e f g a =
      let both : (leb n (length scratch) ≡ true) × (leb (length (frame_bytes (merge_frames old new))) (length buffer) ≡ true) =
      and-both _ _ f in
      record {
        found = refl;
        given = refl;
        under = e;
        kept = leb-true n (length scratch) both.0;
        fits = leb-true (length (frame_bytes (merge_frames old new))) (length buffer) both.1;
        enough = leb-true (nodes (merge_frames old new).expr) (length table) g;
        done = rw (e, f, g) refl;
      }

  joins : (r : Result Frame) (p : Result Plan)
      → accepted (leaves (new_after_merge n (length scratch) (length buffer) (length table) r p)).answer ≡ true
      → (old : Frame) × (new : Frame) × Joins r p old new
  unfolding with_table finish accepted new_after_merge merged_frame tabled
  joins (refused number) p a = absurd (false≢true a)
  joins (ok new) (refused number) a = absurd (false≢true a)
  joins (ok new) (ok empty) a = absurd (false≢true a)
  joins (ok new) (ok (extracted X)) a = absurd (false≢true a)
  joins (ok new) (ok (held old)) a = (
    old,
    new,
    joins-by old new (over_limits (merge_frames old new))
        (leb n (length scratch) && leb (length (frame_bytes (merge_frames old new))) (length buffer))
        (leb (nodes (merge_frames old new).expr) (length table)) refl refl refl a,
  )

pub merge-wrote : MergeWrites
unfolding merge with_table finish accepted
merge-wrote frame n buffer scratch table a =
    let (old, new, j) = joins n buffer scratch table (frame_of frame) (held_plan n buffer) a in
    let bytes : List ℕ = frame_bytes (merge_frames old new) in
    let wrote : CallWrote n buffer scratch (finish n buffer scratch (ok bytes)) =
    finish-wrote n buffer scratch (ok bytes) (j.fits, j.kept, (held-is n buffer (held old) j.found).0) refl in (
      old,
      new,
      j.found,
      j.given,
      subst (MergeWrote n buffer scratch table old new) (sym j.done) (record {
        size = refl;
        short = (within-limits (merge_frames old new) j.under).0;
        plan = over_first bytes buffer;
        wrote = wrote;
        filled = fills (merge_frames old new) table j.enough;
      }),
    )

refused-keeps : (n : ℕ) (buffer scratch : List ℕ) (table : List NodeRecord) (x : Result Frame)
    → let o : MergeOutcome = leaves n buffer scratch table x in
    accepted o.answer ≡ false → (o.n ≡ n) × (o.buffer ≡ buffer) × (o.scratch ≡ scratch) × (o.table ≡ table)
unfolding with_table finish filled_by accepted
refused-keeps n buffer scratch table (ok M) a = absurd (false≢true (sym a))
refused-keeps n buffer scratch table (refused number) a = (refl, refl, refl, refl)

pub merge-keeps-all : MergeKeeps
unfolding merge
merge-keeps-all frame n buffer scratch table a =
    refused-keeps n buffer scratch table
    (new_after_merge n (length scratch) (length buffer) (length table) (frame_of frame) (held_plan n buffer)) a

-- ---- the session that it leaves

-- Of two good frames under the limits.
leaves-session : (match : Matcher) (old new : Frame) (n : ℕ) (buffer scratch : List ℕ) (table : List NodeRecord) (o : MergeOutcome)
    → GoodPlan (held old) → GoodPlan (held new) → over_limits (merge_frames old new) ≡ false
    → length (frame_bytes (merge_frames old new)) ≤ length buffer
    → o ≡ leaves n buffer scratch table (ok (merge_frames old new)) → LeftBy match (merge_frames old new) o
unfolding with_table finish filled_by
leaves-session match old new n buffer scratch table o g k under fits e =
    subst (LeftBy match (merge_frames old new)) (sym e)
    (written_held match (merge_frames old new) (frame_bytes (merge_frames old new)) buffer table refl (good-merged old new g k under) fits)

pub merge-held : MergeHolds
unfolding merge
merge-held match frame n buffer scratch table bytes plan-bytes a =
    let (old, new, j) = joins n buffer scratch table (frame_of frame) (held_plan n buffer) a in
    let g : GoodPlan (held old) = subst Good j.found (held-good n buffer plan-bytes) in
    let k : GoodPlan (held new) = (frame_back frame new bytes j.given).1 in
    (old, new, j.found, j.given, leaves-session match old new n buffer scratch table _ g k j.under j.fits j.done)

-- ---- after a list of calls

pub same-held : (F G : Frame) → held F ≡ held G → F ≡ G
same-held F G e = cc

held-not-extracted : (F : Frame) (X : Extraction) (o : Bool) → held F ≡ (if o then extracted (exchange_extraction X) else extracted X) → ⊥
held-not-extracted F X true e = let z : ◌≡◌ {A = ℕ} 0 1 = cc in absurd (omega arith)
held-not-extracted F X false e = let z : ◌≡◌ {A = ℕ} 0 1 = cc in absurd (omega arith)

module _ {match : Matcher} {Asks : Meaning → Type 0} (laws : Lawful match Asks) where
  -- A machine that holds a frame has not extracted, and holds its own, exchanged or not.
  machine-holds : (F old : Frame) (e o : Bool) → Reached laws F e → machine_plan match F (bits e o) ≡ held old
      → (e ≡ false) × (old ≡ held_now F o)
  unfolding machine_plan exchange_plan
  machine-holds F old true o r h = absurd (held-not-extracted old r.0 o (sym h ∙ plan-extracted laws F r.0 o r.1))
  machine-holds F old false true r h = (refl, same-held old (exchange_frame F) (sym h))
  machine-holds F old false false r h = (refl, same-held old F (sym h))

  -- From a session every list agrees with the machine.
  left-agrees : (M : Frame) (o : MergeOutcome) → LeftBy match M o → (calls : List Made)
      → AgreeBy match M (calls_run_by match o.n o.buffer o.table calls) (machine_after_by match M calls)
  left-agrees M o l calls = rw (← l.1, ← l.2, ← l.3) (list-agrees laws l.0 calls)

  pub list-after : ListAfterMergeBy match
  unfolding merge
  list-after F s before frame scratch bytes a =
      let c : ListOutcome = after s before in
      let b : Bits = told s before in
      let holds : Holds laws F b c.n c.buffer =
      subst (λ (x : Bits). Holds laws F x c.n c.buffer) (bits-told laws s before) (after-all laws s before).holds in
      let plan : held_plan c.n c.buffer ≡ ok (machine_plan match F b) =
      held-plan laws F b.is_extracted b.is_odd c.n c.buffer s.good holds in
      let (old, new, j) =
      joins c.n c.buffer scratch s.table (frame_of frame) (held_plan c.n c.buffer) a in
      let is : machine_plan match F b ≡ held old = same_ok _ _ (sym plan ∙ j.found) in
      let own : (b.is_extracted ≡ false) × (old ≡ held_now F b.is_odd) =
      machine-holds F old b.is_extracted b.is_odd holds.reached is in
      let g : GoodPlan (held old) = subst GoodPlan is (plan-good laws F b.is_extracted b.is_odd s.good) in
      let k : GoodPlan (held new) = (frame_back frame new bytes j.given).1 in
      let session : LeftBy match (merge_frames (held_now F b.is_odd) new) (merge_after s before frame scratch) =
      subst (λ (x : Frame). LeftBy match (merge_frames x new) (merge_after s before frame scratch)) own.1
      (leaves-session match old new c.n c.buffer scratch s.table (merge_after s before frame scratch) g k j.under j.fits
      j.done) in
      (own.0, new, j.given, session, left-agrees _ (merge_after s before frame scratch) session)
