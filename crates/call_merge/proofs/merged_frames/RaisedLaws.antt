-- A frame's expression copied by a table that raises each index is that expression raised.
use Prim.Native.Nat.{ℕ, ◌≤◌}
use native.Mathlib.Omega.{arith}
use mathlib.Core.Path.{◌≡◌, ap, subst}
use mathlib.Core.List.{List}
use lib.ListN.{length}
use Rattle.definitions.specs.Words.Expression as tree
use Rattle.definitions.specs.Filter.Merge.{raised}
use Rattle.frame_reader.specs.Frames.{FrameAt}
use Rattle.frame_reader.specs.declared.frame_bodies.Frame.{Frame}
use Rattle.frame_reader.proofs.Standing.{expr-spans}
use Rattle.byte_writer.specs.Written.{WroteAt}
use Rattle.byte_writer.specs.Writing.{Room, PutsAt}
use Rattle.plan_writer.specs.Tables.{RaisedTable}
use Rattle.plan_writer.specs.Copies.{copy_of, InTable}
use Rattle.plan_writer.proofs.Ranges.{wider-stands}
use Rattle.plan_writer.proofs.TableLaws.{table-whole, table-copies}
use Rattle.call_merge.specs.Merging.{raised_expr}

module _ {s : List ℕ} {f : Frame} {end : ℕ} (by : ℕ) {to : List ℕ} (wide : f.columns ≤ length to)
    (table : RaisedTable by f.columns to) where
  in_table : (F : tree.Frame) → FrameAt s f end F → InTable s f.root end to F.expr
  in_table F h =
      let spans = expr-spans h.expr in
      record { stands = wider-stands (omega (arith, h.counted)) spans.stands; ends = spans.ends }

  raises : (F : tree.Frame) → FrameAt s f end F → copy_of to F.expr ≡ raised_expr by F
  unfolding raised
  raises F h = table-copies (table-whole h.counted table) F.expr h.expr.readable.in_range

  pub raised-fits : {w : ℕ} {out : List ℕ} → Room (FrameAt s f end) (raised_expr by) w out
      → Room (InTable s f.root end to) (copy_of to) w out
  raised-fits p = record {
    it = p.it.expr;
    stands = in_table p.it p.stands;
    room = omega (arith, p.room, ap length (raises p.it p.stands));
  }

  pub raised-put : {w : ℕ} {before after : List ℕ} {r : ℕ} → PutsAt (InTable s f.root end to) (copy_of to) w before after r
      → PutsAt (FrameAt s f end) (raised_expr by) w before after r
  raised-put {w} {before} {after} {r} is = record {
    wrote = λ F h. subst (λ (x : List ℕ). WroteAt w x before after r) (raises F h) (is.wrote F.expr (in_table F h));
  }
