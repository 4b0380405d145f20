-- A plain expression and the records of its columns, and the frame that is written of them.
use Rattle.std.specs.Prelude.{ℕ, ◌+◌, ◌≤◌, ◌≡◌, List, length}
use Rattle.definitions.specs.Words.Expression.{Expr, Record}
use Rattle.definitions.specs.Bytes.Encode.{expr_bytes, frame_bytes}
use Rattle.definitions.specs.Bytes.Decode.{index_below}
use Rattle.definitions.specs.Filter.Extract.{prune}
use Rattle.expression.specs.Nodes.{Stands}
use Rattle.byte_writer.specs.Written.{Wrote}
use Rattle.plan_writer.specs.Tables.{Entries}

-- Records stand in s, and an expression over them in `from`.
pub record Prunable (s : List ℕ) (rec count : ℕ) (from : List ℕ) (at : ℕ) (records : List Record) (e : Expr) : Type 0 where
  pub entries : Entries s rec count records
  pub few : count ≤ 256
  pub tree : Stands (index_below count) from at e

-- The bytes of the frame over the records that it refers to.
abbrev pub pruned_bytes : List Record → Expr → List ℕ
pruned_bytes records e = frame_bytes (prune records e)

-- There are such, and room for that frame; it was written.
pub record PrunedFits (s : List ℕ) (rec count : ℕ) (from : List ℕ) (at : ℕ) (out : List ℕ) : Type 0 where
  pub records : List Record
  pub tree : Expr
  pub frame : Prunable s rec count from at records tree
  pub room : length (pruned_bytes records tree) ≤ length out

abbrev pub PrunedPut : (s : List ℕ) (rec count : ℕ) (from : List ℕ) (at : ℕ) (before after : List ℕ) → ℕ → Type 0
PrunedPut s rec count from at before after r =
    (records : List Record) (e : Expr) → Prunable s rec count from at records e
    → (r ≡ length (pruned_bytes records e)) × Wrote (pruned_bytes records e) before after

-- The same of an expression up to the end.
pub record PrunedToEndFits (s : List ℕ) (rec count : ℕ) (from : List ℕ) (at : ℕ) (out : List ℕ) : Type 0 where
  pub records : List Record
  pub tree : Expr
  pub frame : Prunable s rec count from at records tree
  pub ends : length from ≡ at + length (expr_bytes tree)
  pub room : length (pruned_bytes records tree) ≤ length out

abbrev pub PrunedToEndPut : (s : List ℕ) (rec count : ℕ) (from : List ℕ) (at : ℕ) (before after : List ℕ) → ℕ → Type 0
PrunedToEndPut s rec count from at before after r =
    (records : List Record) (e : Expr) → Prunable s rec count from at records e → length from ≡ at + length (expr_bytes e)
    → (r ≡ length (pruned_bytes records e)) × Wrote (pruned_bytes records e) before after
