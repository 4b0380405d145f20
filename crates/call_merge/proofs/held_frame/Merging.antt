-- What a merge is, once both frames, the limits and both buffers' lengths are known.
use Rattle.std.specs.Prelude.{if◌then◌else◌, Ok, Err}
use Prim.Native.Nat.{ℕ, ◌+◌, ◌*◌, ◌-◌, ◌≤◌, ◌<◌}
use native.Mathlib.Omega.{arith}
use mathlib.Core.Path.{◌≡◌, refl, sym, ap, ap₂, ◌∙◌}
use mathlib.Core.Bool.{Bool, true, false, ◌&&◌}
use mathlib.Core.List.{List, ◌++◌}
use lib.ListN.{length, take, drop}
use lib.Dec.{leb}
use borrow.Author.Tests.{le-leb, lt-leb}
use Rattle.definitions.specs.Words.Basics.{ok, refused}
use Rattle.definitions.specs.Words.Expression.{Frame, held}
use Rattle.definitions.specs.Bytes.Encode.{frame_bytes, plan_bytes}
use Rattle.definitions.specs.Bytes.NodeTable.{NodeRecord, node_table}
use Rattle.definitions.specs.Calls.Base.{written_over, tabled, filled_by, finish}
use Rattle.definitions.specs.Bytes.Good.{AllBytes, GoodPlan, nodes, plan_nodes}
use Rattle.definitions.specs.Filter.Merge.{merge_frames, over_limits}
use Rattle.definitions.specs.Calls.Merge.{merged_frame as merged_or_not, new_after_merge, with_table, merge}
use Rattle.theorems.proofs.InverseFrame.{frame_back}
use Rattle.theorems.proofs.ExchangeGood.{frame-length}
use Rattle.theorems.proofs.NodeTables.{table-nests-by}
use Rattle.theorems.proofs.Merged.{merged-length, merged-nodes, merged-records, over-sums, within-limits, good-merged}
use Rattle.frame_reader.specs.Frames.{FrameAt}
use Rattle.frame_reader.specs.declared.frame_bodies.Frame as places
use Rattle.byte_writer.specs.Writing.{Room, Puts}
use Rattle.call_merge.specs.Merging.{FramesAt, merged_frame}
use Rattle.call_merge.specs.declared.given.Frames.{Frames}
use Rattle.call_merge.specs.Together.{Counts, over_together}
use Rattle.call_merge.specs.Given.{BothFrames}
use Rattle.call_merge.specs.Merges.{MergedIs}
use Rattle.call_merge.specs.MergedNodes.{Merged}
use Rattle.terms.specs.declared.refusals.Refusal.TheVariants.{BufferTooShort, MergedTooLarge, TableTooShort}
use Rattle.call_answers.proofs.Refusing.{merge-ends, merge-call, outcome}
use Rattle.call_merge.proofs.held_frame.Standing.{at-root, table-there, few-bytes, few-nodes}
use Rattle.call_answers.proofs.Keeping.{held-is, plan-size, plan-length, kept, kept-over}

-- A good frame within the limits, of so many bytes.
record Within (size : ℕ) (f : places.Frame) : Type 0 where
  bytes : size ≤ 16384
  nodes : f.nodes ≤ 1024
  records : f.columns ≤ 256

within : (s : List ℕ) (f : places.Frame) (F : Frame) → FrameAt s f (length s) F → (length (frame_bytes F) ≡ length s) × GoodPlan (held F)
    → Within (length s) f
unfolding plan_bytes plan_nodes
within s f F h g = record {
  bytes = omega (arith, g.0, g.1.few_bytes);
  nodes = omega (arith, h.sized, g.1.few_nodes);
  records = omega (arith, h.counted, g.1.readable.few);
}

-- Both frames, where they stand.
pub record Both (frame : List ℕ) (n : ℕ) (before : List ℕ) (p : Frames) : Type 0 where
  pub frames : BothFrames n before frame p
  pub bytes : AllBytes before
  pub frame_bytes : AllBytes frame

module _ {frame : List ℕ} {n : ℕ} {before : List ℕ} {p : Frames} (b : Both frame n before p) where
  abbrev old : Frame
  old = b.frames.held.frame

  abbrev new : Frame
  new = b.frames.given.frame

  abbrev M : Frame
  M = merge_frames old new

  good_old : (length (frame_bytes old) ≡ n) × GoodPlan (held old)
  unfolding plan_bytes
  good_old = plan-size n before b.frames.held.fits b.bytes b.frames.held.is

  good_new : (length (frame_bytes new) ≡ length frame) × GoodPlan (held new)
  good_new = let back = frame_back frame new b.frame_bytes b.frames.given.is in (ap length (sym back.0), back.1)

  pub counts : Counts n (length frame) p.old p.new
  counts =
      let held-length = plan-length n before b.frames.held.fits in
      let x = within (take n before) p.old old b.frames.held.stands (good_old.0 ∙ sym held-length, good_old.1) in
      let y = within frame p.new new b.frames.given.stands good_new in
      record {
        bytes = (omega (arith, x.bytes, held-length), y.bytes);
        nodes = (x.nodes, y.nodes);
        records = (x.records, y.records);
      }

  -- The counts of both frames tell whether the merged one is over a limit.
  over : over_limits M ≡ over_together n (length frame) p
  over =
      let x = b.frames.held.stands in
      let y = b.frames.given.stands in
      over-sums old new
      ∙ rw (good_old.0, good_new.0, ← x.sized, ← y.sized, ← b.frames.deep, ← x.counted, ← y.counted) refl

  -- Merged, they are one byte shorter than both.
  pub not-empty : 1 ≤ n + length frame
  not-empty = omega (arith, merged-length old new, good_old.0, good_new.0)

  size_of : length (frame_bytes M) ≡ n + length frame - 1
  size_of = omega (arith, merged-length old new, good_old.0, good_new.0)

  -- Its nodes, and where its expression begins.
  pub node-count : nodes M.expr ≡ p.old.nodes + p.new.nodes + 1
  node-count = omega (arith, merged-nodes old new, b.frames.held.stands.sized, b.frames.given.stands.sized)

  pub root-there : p.old.root + p.new.root ≡ 6 + 5 * length M.records
  root-there =
      omega (
        arith,
        b.frames.held.stands.expr.bytes.ends,
        b.frames.given.stands.expr.bytes.ends,
        plan-length n before b.frames.held.fits,
        good_old.0,
        good_new.0,
        frame-length old,
        frame-length new,
        merged-records old new,
      )

  -- Both begin within their frames.
  pub root-bounds : (6 ≤ p.old.root + p.new.root) × (p.old.root + p.new.root ≤ 32768)
  root-bounds = (
    omega (arith, root-there),
    omega (
      arith,
      b.frames.held.stands.expr.bytes.ends,
      b.frames.given.stands.expr.bytes.ends,
      plan-length n before b.frames.held.fits,
      counts.bytes,
    ),
  )

  module _ (scratch : List ℕ) (lent : ℕ) where
    by_tests : (table : List NodeRecord) (over room places : Bool) → over_limits M ≡ over
        → (leb n (length scratch) && leb (length (frame_bytes M)) (length before)) ≡ room → leb (nodes M.expr) (length table) ≡ places
        → merge frame n before scratch table
        ≡ merge-ends table n before scratch
        (if over then refused 16 else if room then (if places then ok M else refused 17) else refused 9)
    unfolding new_after_merge merged_or_not tabled
    by_tests table over room places e t u =
        outcome (merge-call table frame new b.frames.given.is) n before scratch (held-is n before b.frames.held.fits b.frames.held.is)
        (ap₂ (λ (x y : Bool). if x then refused 16 else if y then tabled (length table) M else refused 9) e t
        ∙ ap (λ (z : Bool). if over then refused 16 else if room then (if z then ok M else refused 17) else refused 9) u)

    pub too_large : true ≡ over_together n (length frame) p
        → MergedIs frame n before scratch before scratch lent (Err MergedTooLarge)
    unfolding with_table finish filled_by
    too_large t =
        λ table size. by_tests table true _ _ (over ∙ sym t) refl refl

    module _ (under : false ≡ over_together n (length frame) p) where
      pub scratch-short : length scratch < n → MergedIs frame n before scratch before scratch lent (Err BufferTooShort)
      unfolding with_table finish filled_by
      scratch-short s =
          λ table size.
          by_tests table false false _ (over ∙ sym under)
          (ap (λ (x : Bool). x && leb (length (frame_bytes M)) (length before)) (lt-leb n (length scratch) s)) refl

      module _ (enough : n ≤ length scratch) where
        by-room : (table : List NodeRecord) (x y : Bool) → leb (length (frame_bytes M)) (length before) ≡ x
            → leb (nodes M.expr) (length table) ≡ y
            → merge frame n before scratch table
            ≡ merge-ends table n before scratch (if x then (if y then ok M else refused 17) else refused 9)
        by-room table x y t u = by_tests table false x y (over ∙ sym under) (ap₂ ◌&&◌ (le-leb n (length scratch) enough) t) u

        pub plan-short : length before < n + length frame - 1
            → MergedIs frame n before scratch before scratch lent (Err BufferTooShort)
        unfolding with_table finish filled_by
        plan-short s =
            λ table size.
            by-room table false _ (lt-leb (length (frame_bytes M)) (length before) (omega (arith, size_of, s))) refl

        module _ (room : n + length frame - 1 ≤ length before) where
          by-table : (table : List NodeRecord) (y : Bool) → leb (nodes M.expr) (length table) ≡ y
              → merge frame n before scratch table ≡ merge-ends table n before scratch (if y then ok M else refused 17)
          by-table table y u =
              by-room table true y (le-leb (length (frame_bytes M)) (length before) (omega (arith, size_of, room))) u

          pub table-short : lent < p.old.nodes + p.new.nodes + 1
              → MergedIs frame n before scratch before scratch lent (Err TableTooShort)
          unfolding with_table finish filled_by
          table-short s =
              λ table size.
              by-table table false (lt-leb (nodes M.expr) (length table) (omega (arith, node-count, size, s)))

-- Limits and room allow it, and the old plan is copied to the scratch.
pub record Ready (frame : List ℕ) (n : ℕ) (before scratch : List ℕ) (p : Frames) (lent : ℕ) (copy : List ℕ) : Type 0 where
  pub both : Both frame n before p
  pub under : false ≡ over_together n (length frame) p
  pub enough : n ≤ length scratch
  pub room : n + length frame - 1 ≤ length before
  pub tabled : p.old.nodes + p.new.nodes + 1 ≤ lent
  pub copied : copy ≡ take n (drop 0 before) ++ drop n scratch

module _ {frame : List ℕ} {n : ℕ} {before scratch : List ℕ} {p : Frames} {lent : ℕ} {copy : List ℕ}
    (r : Ready frame n before scratch p lent copy) where
  there : take n copy ≡ take n before
  there = kept n before r.both.frames.held.fits scratch copy r.copied

  abbrev pair : Frame × Frame
  pair = (r.both.frames.held.frame, r.both.frames.given.frame)

  -- Both frames stand where the writer looks.
  frames-there : FramesAt (take n copy) p.old frame p.new pair
  frames-there = record { one = rw there r.both.frames.held.stands; two = r.both.frames.given.stands }

  fits : length (merged_frame pair) ≤ length before
  fits = omega (arith, size_of r.both, r.room)

  few : p.old.columns + p.new.columns ≤ 256
  few =
      let x = r.both.frames.held.stands in
      let y = r.both.frames.given.stands in
      omega (
        arith,
        (within-limits (merge_frames pair.0 pair.1) (over r.both ∙ sym r.under)).3,
        merged-records pair.0 pair.1,
        x.counted,
        y.counted,
      )

  pub merged-room : Room (FramesAt (take n copy) p.old frame p.new) merged_frame 0 before × (p.old.columns + p.new.columns ≤ 256)
  merged-room = (record { it = pair; stands = frames-there; room = omega (arith, fits) }, few)

  -- The merged frame is good, and its bytes stand at the start of what is written.
  good-there : GoodPlan (held (M r.both))
  good-there = good-merged pair.0 pair.1 (good_old r.both).1 (good_new r.both).1 (over r.both ∙ sym r.under)

  pub merges : (written : List ℕ) (answer root : ℕ) → root ≡ p.old.root + p.new.root - 3
      → Puts (FramesAt (take n copy) p.old frame p.new) merged_frame before written answer
      → MergedIs frame n before scratch written copy lent
      (Ok (record { length = answer; root = root; count = p.old.nodes + p.new.nodes + 1 }))
  unfolding with_table finish filled_by written_over
  merges written answer root at put = (
    node_table (M r.both),
    table-there (M r.both) _ good-there (put.wrote pair frames-there) (omega (arith, at, root-there r.both))
        (sym (node-count r.both)),
    λ table size.
        by-table r.both scratch lent r.under r.enough r.room table true
        (le-leb (nodes (M r.both).expr) (length table) (omega (arith, node-count r.both, size, r.tabled)))
        ∙ rw (
          ← (put.wrote pair frames-there),
          ← (put.size pair frames-there),
          kept-over n before r.both.frames.held.fits scratch copy r.copied,
          (table-nests-by (M r.both)).0,
          node-count r.both,
        ) refl,
  )

  -- Where it stands and ends, for the records of its nodes.
  pub merged-there : (written : List ℕ) (answer root : ℕ) → root ≡ p.old.root + p.new.root - 3
      → Puts (FramesAt (take n copy) p.old frame p.new) merged_frame before written answer
      → Merged pair.0 pair.1 p.old p.new n (length frame) written
      (record { length = answer; root = root; count = p.old.nodes + p.new.nodes + 1 })
  merged-there written answer root at put =
      let x = r.both.frames.held.stands in
      let y = r.both.frames.given.stands in
      record {
        stands = at-root (M r.both) _ good-there (put.wrote pair frames-there) (omega (arith, at, root-there r.both));
        begins = omega (arith, at, root-bounds r.both);
        ends = omega (arith, at, root-there r.both, put.size pair frames-there, frame-length (M r.both));
        size = omega (arith, put.size pair frames-there, merged-length pair.0 pair.1, (good_old r.both).0, (good_new r.both).0);
        count = refl;
        roots = (
          omega (arith, (good_old r.both).0, frame-length pair.0, x.expr.bytes.ends, plan-length n before r.both.frames.held.fits),
          omega (arith, (good_new r.both).0, frame-length pair.1, y.expr.bytes.ends),
        );
        old_end = omega (arith, x.expr.bytes.ends, plan-length n before r.both.frames.held.fits);
        sized = (x.sized, y.sized);
        short = omega (arith, put.size pair frames-there, few-bytes (M r.both) good-there);
        few = omega (arith, node-count r.both, few-nodes (M r.both) good-there);
      }
