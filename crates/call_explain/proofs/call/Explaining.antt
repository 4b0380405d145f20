-- What the call is, once the frame's answer, the buffer's length and what was written are known.
use Rattle.std.specs.Prelude.{if◌then◌else◌, Ok}
use Prim.Native.Nat.{ℕ, ◌+◌, ◌*◌, ◌≤◌, ◌<◌}
use native.Mathlib.Omega.{arith}
use mathlib.Core.Path.{◌≡◌, refl, sym, ap, ap₂, ◌∙◌}
use mathlib.Core.Option as optional
use Rattle.std.proofs.Math.Seq.{take-append_seam}
use mathlib.Core.Bool.{Bool, true, false}
use mathlib.Core.List.{List, ◌++◌, map-map}
use lib.ListN.{length, take, drop, length-map}
use lib.Dec.{leb}
use borrow.Author.Tests.{le-leb, lt-leb}
use Rattle.definitions.specs.Words.Basics.{Result, ok, refused}
use Rattle.definitions.specs.Words.Expression as tree
use Rattle.definitions.specs.Words.Expression.{Expr}
use Rattle.definitions.specs.Words.Leaves.{leaves}
use Rattle.definitions.specs.Bytes.Plans.{frame_of}
use Rattle.definitions.specs.Calls.Base.{written_over}
use Rattle.definitions.specs.Filter.Settings.{Settings, good_settings}
use Rattle.definitions.specs.Filter.Verdicts.{verdict_byte, verdict_under, verdicts_under, verdict_bytes, named_by, bill_number, explained, TakenLeaf}
use Rattle.definitions.specs.Calls.Explain.{new_verdicts, finish_explain, explain}
use Rattle.theorems.proofs.Pick.{leaves-nodes}
use Rattle.node_table.specs.declared.NodeRecord.{NodeRecord as Lent}
use Rattle.filter_tree.specs.Trees.{Recorded}
use Rattle.filter_tree.proofs.Children.{recorded-noded, recorded-within}
use Rattle.frame_reader.specs.Frames.{PhysicalIs}
use Rattle.frame_reader.specs.declared.frame_bodies.Frame.{Frame}
use Rattle.frame_reader.proofs.Standing.{between-holds, expr-stands}
use Rattle.leaf_verdicts.specs.Laid.{Laid}
use Rattle.leaf_verdicts.specs.Taken.{taken_of}
use Rattle.leaf_verdicts.specs.Walks.{tree_bytes, VerdictsAre}
use Rattle.call_explain.specs.declared.call.Explained.{Explained}
use Rattle.call_explain.specs.Answers.{explained_number}

-- ---- refused

-- Settings that are not good get 24.
pub explain-unsettled : (S : Settings) (s before : List ℕ) → good_settings S ≡ false
    → explain S s before ≡ record { answer = refused 24; buffer = before }
unfolding explain finish_explain
explain-unsettled S s before bad = rw bad refl

module _ (S : Settings) (good : good_settings S ≡ true) (s before : List ℕ) where
  by-frame : (r : Result tree.Frame) → frame_of s ≡ r → explain S s before ≡ finish_explain before (new_verdicts S (length before) r)
  unfolding explain
  by-frame r e = rw (good, e) refl

  pub explain-refused : (number : ℕ) → frame_of s ≡ refused number
      → explain S s before ≡ record { answer = refused number; buffer = before }
  unfolding new_verdicts finish_explain
  explain-refused number e = by-frame (refused number) e

  -- ---- a good frame

  module _ (F : tree.Frame) (is : frame_of s ≡ ok F) where
    -- Its bytes are those of its expression.
    bytes-are : verdict_bytes S F ≡ tree_bytes S F.records F.expr
    unfolding verdict_bytes verdicts_under
    bytes-are = map-map verdict_byte (verdict_under S F.records) (leaves F.expr)

    as-many : length (verdict_bytes S F) ≡ length (leaves F.expr)
    as-many = ap length bytes-are ∙ length-map (leaves F.expr) _

    by-room : (b : Bool) → leb (length (verdict_bytes S F)) (length before) ≡ b
        → explain S s before ≡ finish_explain before (if b then ok (verdict_bytes S F) else refused 9)
    unfolding new_verdicts
    by-room b e = by-frame (ok F) is ∙ rw e refl

    pub too_short : length before < length (leaves F.expr) → explain S s before ≡ record { answer = refused 9; buffer = before }
    unfolding finish_explain
    too_short short = by-room false (lt-leb (length (verdict_bytes S F)) (length before) (omega (arith, short, as-many)))

    -- What was written to a row, and copied from there.
    module _ {blank row : List ℕ} {count : ℕ} (put : VerdictsAre S blank row count F.records F.expr) where
      row-has : take count row ≡ verdict_bytes S F
      row-has =
          ap₂ take (put.counted ∙ sym (length-map (leaves F.expr) _)) put.wrote
          ∙ take-append_seam (tree_bytes S F.records F.expr) _ ∙ sym bytes-are

      pub copied : count ≤ length before → (after : List ℕ) → after ≡ take count (drop 0 row) ++ drop count before
          → (e : Explained) → e.count ≡ count → taken_of e.taken ≡ named_by (take count row)
          → explain S s before ≡ record { answer = ok (explained_number e); buffer = after }
      unfolding finish_explain written_over explained
      copied room after copy e counted taken =
          by-room true (le-leb (length (verdict_bytes S F)) (length before) (omega (arith, room, as-many, put.counted)))
          ∙ ap₂ (λ (n : ℕ) (buffer : List ℕ). record { answer = ok n; buffer = buffer })
          (ap₂ (λ (t : optional.Option TakenLeaf) (n : ℕ). bill_number t * 65536 + n)
          (sym (taken ∙ ap named_by row-has)) (as-many ∙ sym put.counted ∙ sym counted))
          (sym (copy ∙ ap₂ (λ (xs : List ℕ) (n : ℕ). xs ++ drop n before) row-has (put.counted ∙ sym as-many)))

-- ---- a frame that was read

module _ (s : List ℕ) (row : List Lent) {f : Frame} (h : PhysicalIs s (Ok f) (frame_of s) (Recorded row)) where
  -- Its expression stands there, with the records of its columns, and has the first records of nodes.
  pub read-laid : Laid s f.records (take f.nodes row) f.root 0 h.0.records h.0.expr
  read-laid = record {
    over = record { entries = between-holds h.1.records; tree = expr-stands h.1.expr };
    noded = recorded-noded row h.3 (omega (arith, h.1.sized));
  }

  pub read-within : f.nodes ≤ length row
  read-within = omega (arith, h.1.sized, recorded-within row f.root 0 h.0.expr h.3)

  -- It has no more conjuncts than nodes.
  pub few-leaves : length (leaves h.0.expr) ≤ length row
  few-leaves = omega (arith, leaves-nodes h.0.expr, recorded-within row f.root 0 h.0.expr h.3)
