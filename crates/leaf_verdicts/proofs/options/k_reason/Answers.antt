-- `k_reason`: the type says whether the eight bytes have a sign.
use native.Mathlib.Omega.{arith}
use Rattle.expression.proofs.Standing.{node-some}
use Rattle.leaf_matching.proofs.LiteralLaws.{literal-is}
use Rattle.leaf_verdicts.proofs.OptionLaws.{no-literal-told, no-number-told, below-told, number-told}
use Rattle.leaf_verdicts.proofs.options.k_reason.Goals as goal

pub bounds-s-at : goal.bounds-s-at
bounds-s-at c = node-some c.requires.2

pub returns-then-s-at-ne-LITERAL : goal.returns-then-s-at-ne-LITERAL
returns-then-s-at-ne-LITERAL c = no-literal-told _ c.if-s-at-ne-LITERAL.true

pub long_at-bytes-requires : goal.long_at-bytes-requires
long_at-bytes-requires c = omega (arith, (literal-is c.requires.2 c.if-s-at-ne-LITERAL.false).fits)

pub bounds-s-at-2 : goal.bounds-s-at-2
bounds-s-at-2 c = omega (arith, (literal-is c.requires.2 c.if-s-at-ne-LITERAL.false).fits)

pub returns-in_default : goal.returns-in_default
returns-in_default c = no-number-told _ c.if-s-at-ne-LITERAL.false (λ low high. omega (arith, low, high))

pub returns-in_default-2 : goal.returns-in_default-2
returns-in_default-2 c = no-number-told _ c.if-s-at-ne-LITERAL.false (λ low high. omega (arith, low, high))

pub returns-then-bytes-ge-BELOW_ZERO : goal.returns-then-bytes-ge-BELOW_ZERO
returns-then-bytes-ge-BELOW_ZERO c =
    below-told _ c.if-s-at-ne-LITERAL.false (omega arith) (omega arith)
    (omega (arith, c.if-bytes-ge-BELOW_ZERO.true, c.long_at-bytes.ensures))

pub returns-else-bytes-ge-BELOW_ZERO : goal.returns-else-bytes-ge-BELOW_ZERO
returns-else-bytes-ge-BELOW_ZERO c =
    rw c.natural_reason.ensures (number-told _ c.if-s-at-ne-LITERAL.false (omega arith) (omega arith)
    (λ signed. omega (arith, c.if-bytes-ge-BELOW_ZERO.false, c.long_at-bytes.ensures)) _ c.long_at-bytes.ensures)

pub returns-in-4 : goal.returns-in-4
returns-in-4 c =
    rw c.natural_reason-in-4.ensures (number-told _ c.if-s-at-ne-LITERAL.false (omega arith) (omega arith)
    (λ signed. absurd (omega (arith, signed))) _ c.long_at-bytes.ensures)
