-- The logical call's answer, put together from what was found.
use Rattle.std.specs.Prelude.{Ok}
use Prim.Native.Nat.{ℕ, ◌≤◌}
use native.Mathlib.Omega.{arith}
use lib.ListN.{length, take}
use mathlib.Core.Path.{◌≡◌, sym, ap, ◌∙◌}
use mathlib.Core.List.{List, map}
use lib.Count.{ones}
use Rattle.definitions.specs.Words.Basics.{Result, ok, refused, map_result}
use Rattle.definitions.specs.Words.Expression.{Side, no_side, Expr}
use Rattle.definitions.specs.Words.Leaves.{leaves}
use Rattle.definitions.specs.Bytes.Plans.{logical_of}
use Rattle.definitions.specs.Calls.Logical.{LogicalAnswer, logical_answer, logical}
use Rattle.definitions.specs.Filter.Names.{spatial_names, leaf_name, mask, query_side_from}
use Rattle.definitions.proofs.Rows.Names.{names-ones}
use Rattle.node_table.specs.declared.NodeRecord.{NodeRecord as Lent}
use Rattle.filter_tree.specs.Trees.{Noded, Recorded}
use Rattle.filter_tree.proofs.Children.{recorded-noded, recorded-within}
use Rattle.frame_reader.specs.Frames.{LogicalIs}
use Rattle.frame_reader.specs.declared.frames.LogicalFrame.{LogicalFrame}
use Rattle.logical_filter.specs.QuerySides.{first_knn}
use Rattle.logical_filter.proofs.QueryWalk.{by_first}

pub logical-refuses : (s : List ℕ) (number : ℕ) → logical_of s ≡ refused number → refused number ≡ logical s
unfolding logical
logical-refuses s number e = sym (ap (map_result logical_answer) e)

-- Distinct names are the ones of the mask.
answer-is : (e : Expr) (bits : ℕ) (side : Side) → bits ≡ mask spatial_names (map leaf_name (leaves e))
    → side ≡ query_side_from (first_knn (leaves e)) no_side
    → ◌≡◌ {A = LogicalAnswer} (record { mask = bits; names = ones bits; side = side }) (logical_answer e)
unfolding logical_answer
answer-is e bits side is at = rw (is, names-ones spatial_names (map leaf_name (leaves e)), by_first (leaves e), at)

pub logical-finds : (s : List ℕ) (e : Expr) → logical_of s ≡ ok e → (bits : ℕ) (side : Side)
    → bits ≡ mask spatial_names (map leaf_name (leaves e)) → side ≡ query_side_from (first_knn (leaves e)) no_side
    → ok (record { mask = bits; names = ones bits; side = side }) ≡ logical s
unfolding logical
logical-finds s e is bits side names at =
    ap {B = Result LogicalAnswer} ok (answer-is e bits side names at) ∙ sym (ap (map_result logical_answer) is)

-- A frame that was read: its expression has the row's first records.
module _ (s : List ℕ) (row : List Lent) {f : LogicalFrame} (h : LogicalIs s (Ok f) (logical_of s) (Recorded row)) where
  pub read-within : f.nodes ≤ length row
  read-within = omega (arith, h.3, recorded-within row f.root 0 h.0 h.4)

  pub read-noded : Noded (take f.nodes row) f.root 0 h.0
  read-noded = recorded-noded row h.4 (omega (arith, h.3))
