-- The frame that is merged into the held one, and both.
use Rattle.std.specs.Prelude.{ℕ, suc, max, ◌≡◌, List, length}
use Rattle.definitions.specs.Words.Basics.{ok}
use Rattle.definitions.specs.Words.Expression as tree
use Rattle.definitions.specs.Bytes.Good.{depth}
use Rattle.definitions.specs.Bytes.NodeTable.{nodes_from}
use Rattle.definitions.specs.Bytes.Plans.{frame_of}
use Rattle.node_table.specs.Records.{nodes_of}
use Rattle.node_table.specs.declared.NodeRecord.{NodeRecord as Lent}
use Rattle.frame_reader.specs.Frames.{FrameAt}
use Rattle.frame_reader.specs.declared.frame_bodies.Frame.{Frame}
use Rattle.plan_reader.specs.Plans.{HoldsFrame}
use Rattle.call_merge.specs.declared.given.Frames.{Frames}

-- The bytes are a good frame, which stands there.
pub record GivenFrame (s : List ℕ) (f : Frame) : Type 0 where
  pub frame : tree.Frame
  pub stands : FrameAt s f (length s) frame
  pub is : frame_of s ≡ ok frame

-- And these are the records of its nodes.
pub record GivenNodes (s : List ℕ) (nodes : List Lent) (f : Frame) : Type 0 where
  pub given : GivenFrame s f
  pub recorded : nodes_of nodes ≡ nodes_from f.root given.frame.expr

-- The held frame, and the one that is merged into it.
pub record BothFrames (n : ℕ) (plan frame : List ℕ) (p : Frames) : Type 0 where
  pub held : HoldsFrame n plan p.old
  pub given : GivenFrame frame p.new
  pub deep : p.depth ≡ suc (max (depth held.frame.expr) (depth given.frame.expr))
