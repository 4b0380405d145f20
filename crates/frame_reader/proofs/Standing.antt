-- What the reader of frames found at a place stands there.
use Prim.Native.Nat.{ℕ}
use native.Mathlib.Omega.{arith}
use mathlib.Core.List.{List}
use lib.ListN.{drop}
use Rattle.definitions.specs.Words.Expression.{Expr}
use Rattle.definitions.specs.Bytes.Decode.{Columns}
use Rattle.expression.specs.Places.{Holds}
use Rattle.expression.specs.Nodes.{Stands, Spans}
use Rattle.node_reader.specs.Places.{ExprAt}
use Rattle.expression.specs.Places.{Between}

pub between-holds : {s : List ℕ} {at end : ℕ} {x : List ℕ} → Between s at end x → Holds s at x
between-holds {s} {at} {end} {x} b = record { rest = drop end s; bytes = b.bytes; within = omega (arith, b.ends, b.within) }

pub expr-stands : {c : Columns} {s : List ℕ} {at end : ℕ} {e : Expr} → ExprAt c s at end e → Stands c s at e
expr-stands h = record { bytes = between-holds h.bytes; in_range = h.readable.in_range }

pub expr-spans : {c : Columns} {s : List ℕ} {at end : ℕ} {e : Expr} → ExprAt c s at end e → Spans c s at end e
expr-spans h = record { stands = expr-stands h; ends = h.bytes.ends }
