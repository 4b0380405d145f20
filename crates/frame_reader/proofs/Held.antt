-- A frame whose walk was held to a table, and ended before the frame did: it is refused, or its records are others.
use Prim.Native.Nat.{ℕ, ◌+◌, ◌*◌, ◌≤◌}
use native.Mathlib.Omega.{arith}
use mathlib.Core.Path.{◌≡◌, ap, subst}
use mathlib.Core.Bool.{Bool, true, false}
use mathlib.Core.List.{List, ◌∷◌}
use lib.ListN.{length, drop, length-drop}
use lib.Dec.{eqb}
use Rattle.std.specs.Prelude.{Result, Ok, Err}
use Rattle.std.proofs.Common.{inl, inr}
use Rattle.std.proofs.lemmas.Bool.{false_from_ne_true}
use Rattle.definitions.specs.Words.Expression.{Frame}
use Rattle.definitions.specs.Words.Leaves.{arity}
use Rattle.definitions.specs.Bytes.Readers.{read, give, byte, result_of}
use Rattle.definitions.specs.Bytes.Decode.{frame_body}
use Rattle.definitions.specs.Bytes.Plans.{physical_frame, frame_of}
use Rattle.definitions.specs.Bytes.NodeTable.{node_table, begins_with}
use Rattle.theorems.proofs.ReaderLaws.{after, step, test, given, same_read}
use Rattle.theorems.proofs.Inverse.{byte-back}
use Rattle.theorems.proofs.InverseFrame.{opened, ended, answer_back}
use Rattle.theorems.proofs.NodeTables.{begins-exactly-by}
use Rattle.terms.specs.declared.refusals.Refusal.{Refusal}
use Rattle.node_table.specs.declared.NodeRecord.{NodeRecord as Lent}
use Rattle.node_table.specs.Records.{nodes_of}
use Rattle.filter_tree.specs.Trees.{Recorded}
use Rattle.frame_reader.specs.declared.frame_bodies.Frame as frames
use Rattle.frame_reader.specs.Frames.{BodyHeld, PhysicalIs, PhysicalHeld, first_of, opening}
use Rattle.frame_reader.proofs.FrameRows.{last}
use Rattle.frame_reader.proofs.Wholes.{body-stops, body-was}

-- The first byte ends at 1.
opened-at : (s : List ℕ) (at : ℕ) (opens : Bool) → at ≤ length s → opening 1 0 s ≡ read opens 0 (drop at s) → at ≡ 1
unfolding opening first_of
opened-at s at opens low e =
    step (first_of 0 s) _ e (λ first n₁ s₁ e₁ f₁. opened s byte e₁ (λ short g.
    let a : (s ≡ first ∷ s₁) × (n₁ ≡ 0) = byte-back 0 n₁ first s s₁ g in
    let left : s₁ ≡ drop at s =
    test 2 (eqb first 1) (give opens) n₁ s₁ (after (λ b. give opens) f₁) (λ is f. (same_read opens opens n₁ 0 s₁ (drop at s) f).2) in
    omega (arith, low, ap length a.0, ap length left, length-drop at s)))

module _ (table : List Lent) where
  -- A table that begins with a frame's records has those of its expression.
  begun : (F : Frame) (root : ℕ) → root ≡ 1 + 2 + 5 * length F.records → begins_with (node_table F) (nodes_of table) ≡ true
      → Recorded table root 0 F.expr
  unfolding node_table
  begun F root place e =
      subst (λ (k : ℕ). Recorded table k 0 F.expr) (omega (arith, place)) ((begins-exactly-by (node_table F) (nodes_of table)).0 e)

  module _ (s : List ℕ) (at : ℕ) (opens : Bool) (low : at ≤ length s) (e : opening 1 0 s ≡ read opens 0 (drop at s)) where
    -- Where the body ends so, the frame does.
    pub frame-ends : (why : Refusal) → BodyHeld s at table (Err why) → PhysicalHeld s table (Err why) (frame_of s)
    unfolding frame_of physical_frame result_of
    frame-ends why (inl stops) = inl (ap result_of (body-stops 1 frame_body last s at opens e stops))
    frame-ends why (inr others) = inr (λ F is.
        let (m, t, reads) = answer_back (physical_frame 0 s) F is in
        body-was 1 frame_body last s at opens e reads (λ G n v body rest. ended n v (last G) rest (λ none f.
        test 8 (arity G.expr) (give G) n v f (λ enough g.
        given (λ x k u. begins_with (node_table x) (nodes_of table) ≡ false) G F n m v t g
        (false_from_ne_true (begins_with (node_table G) (nodes_of table))
        (λ same. others G n v body (begun G _ (ap (λ (k : ℕ). k + 2 + 5 * length G.records) (opened-at s at opens low e)) same)))))))

  -- What is left to test of it does not ask the table.
  pub whole-held : (s : List ℕ) (r : Result frames.Frame Refusal) → PhysicalIs s r (frame_of s) (Recorded table)
      → PhysicalHeld s table r (frame_of s)
  whole-held s (Ok f) h = h
  whole-held s (Err why) h = inl h
