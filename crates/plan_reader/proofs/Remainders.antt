-- The expression of a remainder whose nodes went into a row, after those of the arguments before it.
use Prim.Native.Nat.{ℕ, ◌≤◌}
use native.Mathlib.Omega.{arith}
use mathlib.Core.Path.{◌≡◌, ap}
use mathlib.Core.List.{List}
use lib.ListN.{length, take, drop, length-append, length-drop}
use Rattle.std.specs.Prelude.{Ok}
use Rattle.definitions.specs.Words.Expression.{Frame}
use Rattle.definitions.specs.Bytes.Encode.{expr_bytes}
use Rattle.definitions.specs.Bytes.Decode.{frame_body}
use Rattle.definitions.specs.Bytes.Good.{AllBytes}
use Rattle.theorems.proofs.Tools.{bytes-from}
use Rattle.theorems.proofs.InverseFrame.{frame_fields, body_back}
use Rattle.node_table.specs.declared.NodeRecord.{NodeRecord as Lent}
use Rattle.filter_tree.specs.Trees.{Noded, RecordedIfRoom}
use Rattle.filter_tree.proofs.Children.{recorded-noded}
use Rattle.filter_tree.proofs.NodeBytes.{nodes-by-bytes}
use Rattle.frame_reader.specs.Frames.{BodyIs, Roomy}
use Rattle.frame_reader.specs.declared.frame_bodies.Frame as frames
use Rattle.frame_reader.specs.declared.frame_bodies.Counted.{Counted}
use Rattle.plan_reader.specs.Predicates.{CountedUpTo}

expr-among : (F : Frame) → length (expr_bytes F.expr) ≤ length (frame_fields F)
unfolding frame_fields
expr-among F = simp length-append (omega arith)

module _ {s : List ℕ} (bytes : AllBytes s) (row filled : List Lent) (room : Roomy s row) (same : length filled ≡ length row)
    {at before : ℕ} (low : at ≤ length s)
    (counted : CountedUpTo at before) {b : Counted frames.Frame} (body : BodyIs s at before (Ok b) frame_body (RecordedIfRoom filled)) where
  pub remainder-within : b.count ≤ length filled
  remainder-within =
      let back = body_back before b.count (drop at s) (drop b.next s) body.1 (bytes-from at s bytes) counted.1 body.2 in
      let parts = length-append (frame_fields body.1) (drop b.next s) in
      omega (
        arith,
        low,
        body.0,
        ap length back.bytes,
        parts,
        expr-among body.1,
        length-drop at s,
        length-drop b.next s,
        room,
        same,
        counted.0,
        nodes-by-bytes _ body.1.expr body.3.expr.readable.in_range,
        body.3.expr.bytes.ends,
        body.3.expr.bytes.within,
        body.3.sized,
        body.4,
        body.5,
      )

  pub remainder-noded : Noded (take b.count filled) b.read.root before body.1.expr
  remainder-noded =
      recorded-noded filled (body.6 (omega (arith, remainder-within, body.3.sized, body.4))) (omega (arith, body.3.sized, body.4))
