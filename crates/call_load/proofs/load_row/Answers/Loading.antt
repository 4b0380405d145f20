-- What a load is, once the frame's answer and the lengths of buffer and table are known.
use Rattle.std.specs.Prelude.{if◌then◌else◌, Ok, Err}
use Prim.Native.Nat.{ℕ, ◌≤◌, ◌<◌}
use native.Mathlib.Omega.{arith}
use mathlib.Core.Path.{◌≡◌, refl, ap, ap₂, ◌∙◌}
use mathlib.Core.Bool.{Bool, true, false}
use mathlib.Core.List.{List, ◌++◌}
use lib.ListN.{length, take, drop}
use lib.Seq.{take-length}
use lib.Dec.{leb}
use borrow.Author.Tests.{le-leb, lt-leb}
use Rattle.definitions.specs.Words.Basics.{ok, refused}
use Rattle.definitions.specs.Words.Expression.{Frame}
use Rattle.definitions.specs.Bytes.Encode.{plan_bytes}
use Rattle.definitions.specs.Bytes.Plans.{frame_of}
use Rattle.definitions.specs.Bytes.Good.{AllBytes, nodes, plan_nodes}
use Rattle.definitions.specs.Bytes.NodeTable.{NodeRecord, nodes_from, node_table}
use Rattle.definitions.specs.Calls.Base.{written_over, tabled, filled_by, new_after_load, finish_load, load}
use Rattle.theorems.proofs.InverseFrame.{frame_back}
use Rattle.theorems.proofs.ExchangeGood.{frame-length}
use Rattle.theorems.proofs.NodeTables.{table-nests-by}
use Rattle.terms.specs.Refusals.{number_of}
use Rattle.terms.specs.declared.refusals.Refusal.{Refusal}
use Rattle.terms.specs.declared.refusals.Refusal.TheVariants.{BufferTooShort, TableTooShort}
use Rattle.expression.specs.Filling.{Records, filled}
use Rattle.filter_tree.proofs.NodeBytes.{nodes-by-bytes}
use Rattle.node_table.specs.Records.{RowHas}
use Rattle.node_table.specs.declared.NodeRecord.{NodeRecord as Lent}
use Rattle.filter_tree.specs.Trees.{Recorded}
use Rattle.filter_tree.proofs.Rows.{row-has}
use Rattle.frame_reader.specs.Frames.{FrameAt, Roomy}
use Rattle.frame_reader.specs.declared.frame_bodies.Frame as places
use Rattle.frame_reader.proofs.Standing.{expr-stands}
use Rattle.call_load.specs.Loads.{LoadedIs}

module _ (frame before : List ℕ) (held : ℕ) where
  -- A load that is refused, whatever the table of this length, leaves it as it is.
  refused-is : (why : Refusal)
      → ((table : List NodeRecord) → length table ≡ held
      → new_after_load frame (length before) (length table) (frame_of frame) ≡ refused (number_of why))
      → LoadedIs frame before before held (Err why)
  unfolding load finish_load filled_by
  refused-is why e = λ table size n. ap (finish_load frame n before table) (e table size)

  pub load-refuses : (why : Refusal) → frame_of frame ≡ refused (number_of why) → LoadedIs frame before before held (Err why)
  unfolding new_after_load
  load-refuses why e = refused-is why (λ table size. ap (new_after_load frame (length before) (length table)) e)

  module _ (F : Frame) (good : frame_of frame ≡ ok F) where
    -- A good frame by the two tests.
    by-room : (table : List NodeRecord) (b t : Bool) → leb (length frame) (length before) ≡ b → leb (nodes F.expr) (length table) ≡ t
        → new_after_load frame (length before) (length table) (frame_of frame)
        ≡ (if b then (if t then ok F else refused 17) else refused 9)
    unfolding new_after_load tabled
    by-room table b t e f =
        ap (new_after_load frame (length before) (length table)) good
        ∙ ap₂ (λ (x y : Bool). if x then (if y then ok F else refused 17) else refused 9) e f

    pub load-short : length before < length frame → LoadedIs frame before before held (Err BufferTooShort)
    load-short h = refused-is BufferTooShort (λ table size. by-room table false _ (lt-leb (length frame) (length before) h) refl)

    module _ (room : length frame ≤ length before) where
      pub load-untabled : held < nodes F.expr → LoadedIs frame before before held (Err TableTooShort)
      load-untabled h =
          refused-is TableTooShort
          (λ table size. by-room table true false (le-leb (length frame) (length before) room)
          (lt-leb (nodes F.expr) (length table) (omega (arith, size, h))))

      module _ (f : places.Frame) (stands : FrameAt frame f (length frame) F) (bytes : AllBytes frame) where
        -- The expression begins after the records, so its nodes' records are the frame's.
        table-there : node_table F ≡ nodes_from f.root F.expr
        unfolding node_table
        table-there =
            ap (λ (k : ℕ). nodes_from k F.expr)
            (omega (arith, stands.expr.bytes.ends, ap length (frame_back frame F bytes good).0, frame-length F))

        records-there : Records frame f.root f.nodes (nodes_from f.root F.expr)
        unfolding plan_bytes plan_nodes
        records-there =
            let back = frame_back frame F bytes good in
            filled (expr-stands stands.expr) stands.sized (omega (arith, stands.sized, back.1.few_nodes))
            (omega (arith, stands.expr.bytes.ends, ap length back.0, back.1.few_bytes))

        pub load-copies : f.nodes ≤ held → (after : List ℕ) → after ≡ take (length frame) (drop 0 frame) ++ drop (length frame) before
            → LoadedIs frame before after held (Ok (record { length = length frame; root = f.root; count = f.nodes }))
        unfolding load finish_load filled_by written_over
        load-copies enough after w = (
          nodes_from f.root F.expr,
          records-there,
          λ table size n.
              ap (finish_load frame n before table)
              (by-room table true true (le-leb (length frame) (length before) room)
              (le-leb (nodes F.expr) (length table) (omega (arith, stands.sized, enough, size))))
              ∙ rw (w, take-length frame, (table-nests-by F).0, ← stands.sized, table-there) refl,
        )

-- ---- the row

-- Of a frame's records it has those that reading put there.
pub frame_has : {s : List ℕ} (row after : List Lent) {f : places.Frame} {F : Frame} → Roomy s row → length after ≡ length row
    → FrameAt s f (length s) F → AllBytes s → frame_of s ≡ ok F → Recorded after f.root 0 F.expr → RowHas s f.root f.nodes after
unfolding plan_nodes
frame_has {s} row after {f} {F} room same stands bytes good recorded =
    let few = (frame_back s F bytes good).1.few_nodes in
    row-has after (expr-stands stands.expr) stands.sized (omega (
      arith,
      room,
      same,
      few,
      stands.sized,
      nodes-by-bytes _ F.expr stands.expr.readable.in_range,
      stands.expr.bytes.ends,
      stands.expr.bytes.within,
    )) recorded
