-- How long a text is, by the bytes and the nodes of its expression.
use Prim.Native.Nat.{ℕ, ◌+◌, ◌*◌, ◌≤◌}
use native.Mathlib.Omega.{arith}
use lib.ListN.{length, length-append}
use borrow.Author.Tests.{ltb-true}
use Rattle.definitions.specs.Words.Basics.{ascii, big_endian}
use Rattle.definitions.specs.Words.Expression.{Expr, column, literal, and, binary, call, other, field, Exprs, nil, cons}
use Rattle.definitions.specs.Bytes.Encode.{expr_bytes, exprs_bytes, plan_bytes}
use Rattle.definitions.specs.Bytes.Decode.{index_below}
use Rattle.definitions.specs.Bytes.Good.{nodes, nodes_all, InRange, InRangeAll, plan_nodes}
use Rattle.definitions.specs.Bytes.Printed.{printed, printed_all, printed_more}
use Rattle.definitions.specs.Claims.Print.{TextShort}
use Rattle.theorems.proofs.Figures.{decimal-short, decimal-three, decimal-two, decimal-one, digits16-length}
use Rattle.theorems.proofs.ExchangeGood.{frame-length}

mutual
  unfolding printed ascii expr_bytes big_endian

  -- At most five characters for two bytes, less two.
  pub text-by-bytes : (b : ℕ) → b ≤ 256 → (e : Expr) → InRange (index_below b) e → 2 * length (printed e) + 4 ≤ 5 * length (expr_bytes e)
  text-by-bytes b k (column i t) =
      λ h. simp length-append (omega (arith, decimal-three i (omega (arith, ltb-true i b h.0)), decimal-short t))
  text-by-bytes b k (literal t v) = λ h. simp length-append (omega (arith, decimal-one t (omega (arith, h.0)), digits16-length v))
  text-by-bytes b k (and l r) =
      λ h. simp length-append (omega (arith, decimal-one 0 (omega arith), text-by-bytes b k l h.0, text-by-bytes b k r h.1))
  text-by-bytes b k (binary o l r) = λ h.
      simp length-append (omega (arith, decimal-two o (omega (arith, h.1)), text-by-bytes b k l h.2, text-by-bytes b k r h.3))
  text-by-bytes b k (call name es) = λ h.
      simp length-append (omega (arith, h.0, decimal-two (length name) (omega (arith, h.1)), all-by-bytes b k es h.4))
  text-by-bytes b k (other tag es) = λ h. simp length-append (omega (arith, decimal-short tag, all-by-bytes b k es h.2))
  text-by-bytes b k (field x t) = λ h. absurd h

  all-by-bytes : (b : ℕ) → b ≤ 256 → (es : Exprs) → InRangeAll (index_below b) es
      → 2 * length (printed_all es) ≤ 5 * length (exprs_bytes es)
  all-by-bytes b k nil = λ h. omega arith
  all-by-bytes b k (cons e es) = λ h. simp length-append (omega (arith, text-by-bytes b k e h.0, more-by-bytes b k es h.1))

  more-by-bytes : (b : ℕ) → b ≤ 256 → (es : Exprs) → InRangeAll (index_below b) es
      → 2 * length (printed_more es) ≤ 5 * length (exprs_bytes es)
  more-by-bytes b k nil = λ h. omega arith
  more-by-bytes b k (cons e es) = λ h. simp length-append (omega (arith, text-by-bytes b k e h.0, more-by-bytes b k es h.1))

mutual
  unfolding printed ascii expr_bytes big_endian nodes

  -- At most one character for each byte and ten for each node, less one.
  pub text-by-nodes : (b : ℕ) → b ≤ 256 → (e : Expr) → InRange (index_below b) e
      → length (printed e) + 1 ≤ length (expr_bytes e) + 10 * nodes e
  text-by-nodes b k (column i t) =
      λ h. simp length-append (omega (arith, decimal-three i (omega (arith, ltb-true i b h.0)), decimal-short t))
  text-by-nodes b k (literal t v) = λ h. simp length-append (omega (arith, decimal-one t (omega (arith, h.0)), digits16-length v))
  text-by-nodes b k (and l r) =
      λ h. simp length-append (omega (arith, decimal-one 0 (omega arith), text-by-nodes b k l h.0, text-by-nodes b k r h.1))
  text-by-nodes b k (binary o l r) = λ h.
      simp length-append (omega (arith, decimal-two o (omega (arith, h.1)), text-by-nodes b k l h.2, text-by-nodes b k r h.3))
  text-by-nodes b k (call name es) = λ h.
      simp length-append (omega (arith, decimal-two (length name) (omega (arith, h.1)), all-by-nodes b k es h.4))
  text-by-nodes b k (other tag es) = λ h. simp length-append (omega (arith, decimal-short tag, all-by-nodes b k es h.2))
  text-by-nodes b k (field x t) = λ h. absurd h

  all-by-nodes : (b : ℕ) → b ≤ 256 → (es : Exprs) → InRangeAll (index_below b) es
      → length (printed_all es) ≤ length (exprs_bytes es) + 10 * nodes_all es
  all-by-nodes b k nil = λ h. omega arith
  all-by-nodes b k (cons e es) = λ h. simp length-append (omega (arith, text-by-nodes b k e h.0, more-by-nodes b k es h.1))

  more-by-nodes : (b : ℕ) → b ≤ 256 → (es : Exprs) → InRangeAll (index_below b) es
      → length (printed_more es) ≤ length (exprs_bytes es) + 10 * nodes_all es
  more-by-nodes b k nil = λ h. omega arith
  more-by-nodes b k (cons e es) = λ h. simp length-append (omega (arith, text-by-nodes b k e h.0, more-by-nodes b k es h.1))

-- The text of a good frame, by its bytes, and at most.
pub text-short : TextShort
unfolding plan_nodes plan_bytes
text-short F g =
    let bytes = text-by-bytes (length F.records) g.readable.few F.expr g.readable.expr.in_range in
    let few = text-by-nodes (length F.records) g.readable.few F.expr g.readable.expr.in_range in
    (omega (arith, bytes, frame-length F), omega (arith, few, frame-length F, g.few_bytes, g.few_nodes))
