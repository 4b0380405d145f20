-- The logical call: 1, 2, the first of 3 to 5, 7.
use Rattle.std.specs.Prelude.{ℕ, List, [], ◌∷◌, ◌++◌, map}
use Rattle.definitions.specs.Words.Basics.{Result, map_result, big_endian}
use Rattle.definitions.specs.Words.Expression.{Side, Expr}
use Rattle.definitions.specs.Words.Leaves.{leaves}
use Rattle.definitions.specs.Bytes.Encode.{side_number}
use Rattle.definitions.specs.Bytes.Plans.{logical_of}
use Rattle.definitions.specs.Filter.Names.{spatial_names, leaf_name, mask, distinct, query_side}

-- What the logical call gives.
pub record LogicalAnswer : Type 0 where
  pub mask : ℕ
  pub names : ℕ
  pub side : Side

-- The answer for an expression.
unfoldable pub logical_answer : Expr → LogicalAnswer
logical_answer e = record {
  mask = mask spatial_names (map leaf_name (leaves e));
  names = distinct spatial_names (map leaf_name (leaves e));
  side = query_side (leaves e);
}

-- The call logical: 1, 2, the first of 3 to 5, 7.
unfoldable pub logical : (frame : List ℕ) → Result LogicalAnswer
logical frame = map_result logical_answer (logical_of frame)

-- The answer's bytes: mask, high byte first, how many names, side.
unfoldable pub logical_bytes : LogicalAnswer → List ℕ
logical_bytes a = big_endian 2 a.mask ++ (a.names ∷ side_number a.side ∷ [])
