-- Request 6 of document 02: the records that a table is filled with, by where their expression stands. (Ours.)
use Rattle.std.specs.Prelude.{ℕ, ◌+◌, ◌≤◌, ◌≡◌, List, [], length}
use Rattle.definitions.specs.Words.Expression.{Expr}
use Rattle.definitions.specs.Bytes.Encode.{expr_bytes}
use Rattle.definitions.specs.Bytes.Decode.{Columns}
use Rattle.definitions.specs.Bytes.Good.{nodes}
use Rattle.definitions.specs.Bytes.NodeTable.{NodeRecord, nodes_from}
use Rattle.expression.specs.Nodes.{Stands}

-- These are the records of the `count` nodes of an expression at a place, at most 1,024 that end by 16,384; or count is 0 and there are
-- none.
pub data Records (s : List ℕ) (root count : ℕ) : List NodeRecord → Type 0 where
  nothing : count ≡ 0 → Records s root count []
  filled : {c : Columns} {t : Expr} → Stands c s root t → count ≡ nodes t → count ≤ 1024 → root + length (expr_bytes t) ≤ 16384
      → Records s root count (nodes_from root t)
