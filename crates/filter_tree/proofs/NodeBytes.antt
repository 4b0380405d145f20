-- How many nodes bytes can have.
use Prim.Native.Nat.{◌+◌, ◌*◌, ◌≤◌}
use native.Mathlib.Omega.{arith}
use lib.ListN.{length, length-append}
use Rattle.definitions.specs.Words.Basics.{big_endian}
use Rattle.definitions.specs.Words.Expression.{Expr, column, literal, and, binary, call, other, field, Exprs, nil, cons}
use Rattle.definitions.specs.Bytes.Encode.{expr_bytes, exprs_bytes}
use Rattle.definitions.specs.Bytes.Decode.{Columns}
use Rattle.definitions.specs.Bytes.Good.{nodes, nodes_all, InRange, InRangeAll}

mutual
  unfolding expr_bytes big_endian nodes

  -- A node has three bytes at least, and an expression one more.
  pub nodes-by-bytes : (c : Columns) (e : Expr) → InRange c e → 3 * nodes e + 1 ≤ length (expr_bytes e)
  nodes-by-bytes c (column i t) = λ h. omega arith
  nodes-by-bytes c (literal t v) = λ h. omega arith
  nodes-by-bytes c (and l r) = λ h. simp length-append (omega (arith, nodes-by-bytes c l h.0, nodes-by-bytes c r h.1))
  nodes-by-bytes c (binary o l r) = λ h. simp length-append (omega (arith, nodes-by-bytes c l h.2, nodes-by-bytes c r h.3))
  nodes-by-bytes c (call name es) = λ h. simp length-append (omega (arith, h.0, all-by-bytes c es h.4))
  nodes-by-bytes c (other tag es) = λ h. simp length-append (omega (arith, all-by-bytes c es h.2))
  nodes-by-bytes c (field x t) = λ h. omega arith

  all-by-bytes : (c : Columns) (es : Exprs) → InRangeAll c es → 3 * nodes_all es ≤ length (exprs_bytes es)
  all-by-bytes c nil = λ h. omega arith
  all-by-bytes c (cons e es) = λ h. simp length-append (omega (arith, nodes-by-bytes c e h.0, all-by-bytes c es h.1))
