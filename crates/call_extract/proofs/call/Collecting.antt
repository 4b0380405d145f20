-- The nodes of a held frame, once it is read, are the row's first records.
use Rattle.std.specs.Prelude.{Ok}
use Prim.Native.Nat.{ℕ, ◌≤◌}
use native.Mathlib.Omega.{arith}
use mathlib.Core.Path.{◌≡◌, ap, ◌∙◌}
use mathlib.Core.List.{List}
use lib.ListN.{length, take}
use Rattle.definitions.specs.Bytes.Plans.{plan_of}
use Rattle.definitions.specs.Bytes.NodeTable.{nodes_from}
use Rattle.theorems.proofs.NodeTables.{node-count}
use Rattle.frame_reader.specs.declared.frame_bodies.Frame.{Frame}
use Rattle.frame_reader.proofs.Standing.{expr-stands}
use Rattle.plan_reader.specs.declared.extraction_bodies.Held.TheVariants as held
use Rattle.plan_reader.specs.Plans.{HeldIs}
use Rattle.node_table.specs.Records.{node_of, nodes_of}
use Rattle.node_table.specs.declared.NodeRecord.{NodeRecord as Lent}
use Rattle.node_table.proofs.Filling.{map-take}
use Rattle.filter_tree.specs.Trees.{Recorded}
use Rattle.filter_tree.proofs.Children.{recorded-within}
use Rattle.expression.proofs.OneTree.{of_tree}
use Rattle.call_extract.specs.FrameNodes.{Indexed}

module _ (n : ℕ) (plan : List ℕ) {f : Frame} (row : List Lent)
    (read : HeldIs (take n plan) (Ok (held.Frame f)) (plan_of (take n plan)) (Recorded row)) where
  pub held-within : f.nodes ≤ length row
  held-within = omega (arith, recorded-within row f.root 0 read.0.expr read.3, read.1.sized)

  pub held-indexed : Indexed n plan f (take f.nodes row)
  held-indexed =
      of_tree (λ t. nodes_of (take f.nodes row) ≡ nodes_from f.root t) (expr-stands read.1.expr)
      (map-take node_of f.nodes row
      ∙ ap (λ (k : ℕ). take k (nodes_of row)) (omega (arith, read.1.sized, node-count f.root read.0.expr)) ∙ read.3)
