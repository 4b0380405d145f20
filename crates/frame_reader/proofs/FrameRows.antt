-- A frame whose nodes went into a row: there was room for them, and its expression is in it.
use Prim.Native.Nat.{ℕ, ◌≤◌}
use native.Mathlib.Omega.{arith}
use mathlib.Core.Path.{◌≡◌, subst}
use mathlib.Core.Bool.{Bool}
use mathlib.Core.List.{List}
use lib.ListN.{length, take}
use Rattle.definitions.specs.Words.Expression as tree
use Rattle.definitions.specs.Words.Expression.{Expr}
use Rattle.definitions.specs.Bytes.Decode.{Columns, frame_body}
use Rattle.definitions.specs.Bytes.Good.{nodes}
use Rattle.definitions.specs.Words.Leaves.{arity}
use Rattle.definitions.specs.Bytes.Readers.{read, Reader, ◌>>◌, give, require, byte}
use Rattle.node_table.specs.declared.NodeRecord.{NodeRecord as Lent}
use Rattle.filter_tree.specs.Trees.{Noded, TreeNode, Recorded, RecordedIfRoom}
use Rattle.filter_tree.proofs.Children.{recorded-noded, recorded-within}
use Rattle.filter_tree.proofs.NodeBytes.{nodes-by-bytes}
use Rattle.node_reader.specs.Places.{ExprAt}
use Rattle.theorems.proofs.ReaderLaws.{step}
use Rattle.theorems.proofs.InverseFrame.{opened}
use Rattle.frame_reader.specs.declared.frame_bodies.Frame.{Frame}
use Rattle.frame_reader.specs.declared.frame_bodies.Counted.{Counted}
use Rattle.std.specs.Prelude.{Ok}
use Rattle.frame_reader.specs.Frames.{FrameAt, BodyIs, Roomy, first_of, opening}
use Rattle.frame_reader.proofs.Standing.{expr-stands}

-- What is tested of a frame once its bytes end.
abbrev pub last : tree.Frame → Reader tree.Frame
last F = require 8 (arity F.expr) >> give F

-- Bytes that were opened are few enough.
pub opened-short : (sort : ℕ) (s : List ℕ) (t : Bool) (u : List ℕ) → opening sort 0 s ≡ read t 0 u → length s ≤ 16384
unfolding opening first_of
opened-short sort s t u e = step (first_of 0 s) _ e (λ first n₁ s₁ e₁ f₁. opened s byte e₁ (λ short g. short))

-- A node has three bytes at least: what was read from the start is in a row with room.
pub read-recorded : {s : List ℕ} (row filled : List Lent) → Roomy s row → length filled ≡ length row → {c : Columns} {root end count : ℕ}
    {e : Expr} → ExprAt c s root end e → count ≡ nodes e → count ≤ 1024 → RecordedIfRoom filled root 0 e → Recorded filled root 0 e
read-recorded row filled room same {c} {e = e} at counted few recorded =
    recorded
    (omega (arith, room, same, nodes-by-bytes c e at.readable.in_range, at.bytes.ends, at.bytes.within, counted, few))

-- So a body whose nodes went into a row is recorded there.
pub body-recorded : {s : List ℕ} (row filled : List Lent) → Roomy s row → length filled ≡ length row → (at : ℕ) (b : Counted Frame)
    → BodyIs s at 0 (Ok b) frame_body (RecordedIfRoom filled) → BodyIs s at 0 (Ok b) frame_body (Recorded filled)
body-recorded row filled room same at b (place, F, reads, stands, counted, few, recorded) = (
  place,
  F,
  reads,
  stands,
  counted,
  few,
  read-recorded row filled room same stands.expr (omega (arith, stands.sized, counted)) few
      recorded,
)

-- The expression of a body that is recorded is a tree of the first records.
module _ {s : List ℕ} (records : List Lent) (at : ℕ) (b : Counted Frame) (body : BodyIs s at 0 (Ok b) frame_body (Recorded records)) where
  pub body-noded : Noded (take b.count records) b.read.root 0 body.1.expr
  body-noded = recorded-noded records body.6 (omega (arith, body.3.sized, body.4))

  pub body-within : b.count ≤ length records
  body-within = omega (arith, recorded-within records _ 0 body.1.expr body.6, body.3.sized, body.4)

  pub body-node : TreeNode s (take b.count records) 0
  body-node = (_, b.read.root, body.1.expr, expr-stands body.3.expr, body-noded)

pub frame-up-to : {s : List ℕ} {f : Frame} {next end : ℕ} {F : tree.Frame} → next ≡ end → FrameAt s f next F → FrameAt s f end F
frame-up-to {s} {f} {F = F} e h = subst (λ (k : ℕ). FrameAt s f k F) e h
