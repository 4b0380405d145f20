-- The bytes of a merged frame, of its tables and of its And as the parts that are written one after another.
use Prim.Native.Nat.{ℕ, ◌+◌}
use mathlib.Core.Path.{◌≡◌, sym, ap, ◌∙◌}
use mathlib.Core.List.{List, [], ◌∷◌, ◌++◌, append_assoc}
use lib.ListN.{length}
use Rattle.definitions.specs.Words.Expression as tree
use Rattle.definitions.specs.Bytes.Encode.{expr_bytes, records_bytes}
use Rattle.definitions.specs.Filter.Merge.{merge_frames}
use Rattle.theorems.proofs.Merged.{merged-bytes}
use Rattle.expression.specs.Places.{Between}
use Rattle.frame_reader.specs.Frames.{FrameAt}
use Rattle.frame_reader.specs.declared.frame_bodies.Frame.{Frame}
use Rattle.byte_writer.specs.Writing.{Both, joined, same}
use Rattle.byte_writer.proofs.Sequence.{Headed}
use Rattle.plan_writer.specs.Predicates.{frame_head}
use Rattle.call_merge.specs.Merging.{FramesAt, merged_frame, merged_tables, merged_expr, raised_expr}

-- Head and tables, then the expression.
merged-parts : (x : tree.Frame × tree.Frame) → merged_frame x ≡ merged_tables x ++ merged_expr x
unfolding frame_head merge_frames expr_bytes
merged-parts x =
    let head : List ℕ = frame_head (length x.0.records + length x.1.records) in
    let old : List ℕ = records_bytes x.0.records in
    let new : List ℕ = records_bytes x.1.records in
    merged-bytes x.0 x.1
    ∙ sym (append_assoc head (old ++ new) (merged_expr x) ∙ ap (λ (l : List ℕ). head ++ l) (append_assoc old new (merged_expr x)))

module _ {s t : List ℕ} (f g : Frame) (x : tree.Frame × tree.Frame) (h : FramesAt s f t g x) where
  pub merged-view : Headed [] (Both (FramesAt s f t g) (FramesAt s f t g)) (joined merged_tables merged_expr) (merged_frame x)
  merged-view = record { it = (x, x); stands = record { one = h; two = h }; is = merged-parts x }

  pub tables-view : Headed (frame_head (f.columns + g.columns))
      (Both (Between s f.records f.root) (Between t g.records g.root)) (joined same same) (merged_tables x)
  tables-view = record {
    it = (records_bytes x.0.records, records_bytes x.1.records);
    stands = record { one = h.one.records; two = h.two.records };
    is = rw (h.one.counted, h.two.counted);
  }

  pub and_view : Headed (2 ∷ 0 ∷ []) (Both (Between s f.root (length s)) (FrameAt t g (length t)))
      (joined same (raised_expr f.columns)) (merged_expr x)
  unfolding merge_frames expr_bytes
  and_view = record {
    it = (expr_bytes x.0.expr, x.1);
    stands = record { one = h.one.expr.bytes; two = h.two };
    is = rw h.one.counted;
  }
