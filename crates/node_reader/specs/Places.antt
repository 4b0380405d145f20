-- Where an expression stands that was read.
use Rattle.std.specs.Prelude.{ℕ, ◌+◌, ◌≤◌, ◌≡◌, ◌⊎◌, List, drop, Result, Ok, Err}
use Rattle.definitions.specs.Words.Limits.{most_nodes}
use Rattle.definitions.specs.Words.Expression.{Expr}
use Rattle.definitions.specs.Bytes.Encode.{expr_bytes}
use Rattle.definitions.specs.Bytes.Readers.{read, stopped}
use Rattle.definitions.specs.Bytes.Decode.{Columns, expression}
use Rattle.definitions.specs.Bytes.Good as good
use Rattle.definitions.specs.Bytes.Good.{Readable}
use Rattle.terms.specs.Refusals.{number_of}
use Rattle.terms.specs.declared.refusals.Refusal.{Refusal}
use Rattle.expression.specs.Places.{Between}
use Rattle.node_table.specs.declared.NodeRecord.{NodeRecord as Lent}
use Rattle.filter_tree.specs.Trees.{Recorded}
use Rattle.node_reader.specs.declared.walk.Walked.{Walked}

-- The expression e stands from `at` up to `end`, its fields in their ranges and its depth at most 64.
pub record ExprAt (c : Columns) (s : List ℕ) (at end : ℕ) (e : Expr) : Type 0 where
  pub bytes : Between s at end (expr_bytes e)
  pub readable : Readable c e

-- An expression was read, `before` nodes counted up to its place and its own after them; what is claimed of it, from that index on.
abbrev pub ExpressionIs : List ℕ → (at before : ℕ) → Result Walked Refusal → Columns → (claim : (at i : ℕ) → Expr → Type 0) → Type 0
ExpressionIs s at before (Ok walked) c claim =
    (e : Expr) × (expression c before (drop at s) ≡ read e walked.count (drop walked.next s)) × ExprAt c s at walked.next e
    × (walked.count ≡ before + good.nodes e) × (walked.count ≤ most_nodes) × claim at before e
ExpressionIs s at before (Err why) c claim = expression c before (drop at s) ≡ stopped (number_of why)

-- An expression was read whose records are a table's from that index on; or it is refused, or whatever is read there has other records.
abbrev pub ExpressionHeld : List ℕ → (at before : ℕ) → List Lent → Result Walked Refusal → Columns → Type 0
ExpressionHeld s at before table (Ok walked) c = ExpressionIs s at before (Ok walked) c (Recorded table)
ExpressionHeld s at before table (Err why) c =
    (expression c before (drop at s) ≡ stopped (number_of why))
    ⊎ ((e : Expr) (n : ℕ) (rest : List ℕ) → expression c before (drop at s) ≡ read e n rest → Recorded table at before e → ⊥)

-- Nothing is claimed.
abbrev pub NoClaim : (at i : ℕ) → Expr → Type 0
NoClaim at i e = Unit {0}
