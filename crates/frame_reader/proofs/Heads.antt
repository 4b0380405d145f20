-- A frame's head: its records stand there, and the frame is read from the expression after them on.
mod Records
use Prim.Native.Nat.{ℕ, ◌+◌, ◌*◌, ◌≤◌}
use native.Mathlib.Omega.{arith}
use mathlib.Core.Path.{◌≡◌, sym, ap, ◌∙◌, subst}
use mathlib.Core.List.{List, ◌++◌}
use lib.ListN.{length, drop, length-append, length-drop}
use Rattle.std.specs.Prelude.{Err}
use Rattle.std.proofs.Common.{inl, inr}
use Rattle.definitions.specs.Words.Basics.{big_endian}
use Rattle.definitions.specs.Words.Expression.{Expr, Record, Frame}
use Rattle.definitions.specs.Bytes.Encode.{expr_bytes, records_bytes}
use Rattle.definitions.specs.Bytes.Readers.{read, ◌>>=◌, give, repeat}
use Rattle.definitions.specs.Bytes.Decode.{index_below, one_record, expression, frame_body}
use Rattle.definitions.specs.Bytes.Good.{AllBytes, nodes}
use Rattle.theorems.proofs.ReaderLaws.{after, halts, step, given}
use Rattle.theorems.proofs.Inverse.{node-back}
use Rattle.theorems.proofs.InverseFrame.{frame_fields, body_back}
use Rattle.theorems.proofs.ExchangeGood.{records-length}
use Rattle.terms.specs.declared.refusals.Refusal.{Refusal}
use Rattle.node_table.specs.declared.NodeRecord.{NodeRecord as Lent}
use Rattle.filter_tree.specs.Trees.{Recorded}
use Rattle.node_reader.specs.Fields.{ReadsAt}
use Rattle.node_reader.specs.Places.{ExprAt, ExpressionHeld}
use Rattle.node_reader.proofs.Standing.{bytes-from, between}
use Rattle.frame_reader.specs.declared.frame_bodies.FrameHead.{FrameHead}
use Rattle.frame_reader.specs.Frames.{FrameAt, HeadAt, BodyHeld}
use Rattle.frame_reader.proofs.Heads.Records.{recorded}

-- Records that were read are the head's.
pub head-stands : (s : List ℕ) (at first root columns : ℕ) (rs : List Record) → AllBytes s → first ≤ length s → root ≤ length s
    → ReadsAt s first root rs (repeat columns one_record)
    → ((n : ℕ)
    → frame_body n (drop at s) ≡ (expression (index_below columns) >>= λ e. give (record { records = rs; expr = e })) n (drop root s))
    → HeadAt s at (record { columns = columns; records = first; root = root })
head-stands s at first root columns rs bytes low high reads goes =
    let back : (drop first s ≡ records_bytes rs ++ drop root s) × (length rs ≡ columns) =
    recorded columns 0 0 (drop first s) (drop root s) rs (bytes-from first s bytes) (reads 0) in
    record {
      rows = rs;
      within = high;
      counted = sym back.1;
      stands = between s (records_bytes rs) first root low high back.0;
      reads = goes;
    }

fields-length : (F : Frame) → length (frame_fields F) ≡ 2 + 5 * length F.records + length (expr_bytes F.expr)
unfolding frame_fields big_endian
fields-length F = simp (length-append, records-length) (omega arith)

module _ {s : List ℕ} {at : ℕ} {h : FrameHead} (head : HeadAt s at h) where
  -- With the expression after it, it is a frame.
  pub frame-stands : {next many : ℕ} {x : Expr} → ExprAt (index_below h.columns) s h.root next x → many ≡ nodes x
      → FrameAt s (record { columns = h.columns; records = h.records; root = h.root; nodes = many }) next
      (record { records = head.rows; expr = x })
  frame-stands stands sized = record {
    counted = head.counted;
    records = head.stands;
    expr = rw (← head.counted) stands;
    sized = sized;
  }

  module _ (bytes : AllBytes s) (low : at ≤ length s) where
    -- Where its expression starts.
    place : (x : Expr) (n : ℕ) (rest : List ℕ) → expression (index_below h.columns) 0 (drop h.root s) ≡ read x n rest
        → h.root ≡ at + 2 + 5 * length head.rows
    unfolding expression
    place x n rest e =
        let F : Frame = record { records = head.rows; expr = x } in
        let whole = (body_back 0 n (drop at s) rest F (bytes-from at s bytes) (omega arith) (head.reads 0 ∙ after _ e)).bytes in
        let own = (node-back (index_below h.columns) 64 0 n (drop h.root s) rest x (bytes-from h.root s bytes) (omega arith) e).bytes in
        omega (
          arith,
          low,
          head.within,
          ap length whole,
          ap length own,
          length-append (frame_fields F) rest,
          length-append (expr_bytes x) rest,
          fields-length F,
          length-drop at s,
          length-drop h.root s,
        )

    -- Where the walk that holds the expression to a table ends, so does the frame.
    pub held-ends : (table : List Lent) (why : Refusal) → ExpressionHeld s h.root 0 table (Err why) (index_below h.columns)
        → BodyHeld s at table (Err why)
    held-ends table why (inl stops) = inl (head.reads 0 ∙ halts _ stops)
    held-ends table why (inr others) = inr (λ F n rest e.
        step (expression (index_below h.columns) 0 (drop h.root s)) _ (sym (head.reads 0) ∙ e) (λ x n₁ s₁ e₁ f₁.
        given (λ G m t. Recorded table (at + 2 + 5 * length G.records) 0 G.expr → ⊥) (record { records = head.rows; expr = x }) F n₁ n s₁
        rest f₁
        (λ same. others x n₁ s₁ e₁ (subst (λ (k : ℕ). Recorded table k 0 x) (sym (place x n₁ s₁ e₁)) same))))
