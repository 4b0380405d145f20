-- A held frame and the records of its nodes.
use Rattle.std.specs.Prelude.{ℕ, ◌≡◌, List, take}
use Rattle.definitions.specs.Bytes.NodeTable.{nodes_from}
use Rattle.expression.specs.Nodes.{OfTree}
use Rattle.frame_reader.specs.declared.frame_bodies.Frame.{Frame}
use Rattle.node_table.specs.Records.{nodes_of}
use Rattle.node_table.specs.declared.NodeRecord.{NodeRecord as Lent}

-- These are the records of the expression of the frame in the plan's first n bytes.
abbrev pub Indexed : (n : ℕ) (plan : List ℕ) (f : Frame) (nodes : List Lent) → Type 0
Indexed n plan f nodes = OfTree (take n plan) f.root (λ t. nodes_of nodes ≡ nodes_from f.root t)
