-- `decode`: i bytes are decoded and the later digits decide; a bad pair decides at once, and at the end nothing is left.
use Prim.Native.Nat.{ℕ, ◌/◌}
use native.Mathlib.Omega.{arith}
use mathlib.Core.Path.{sym, ap, ◌∙◌}
use mathlib.Core.List.{List, []}
use lib.ListN.{length, get_or}
use borrow.Author.Tests.{eqb-true, eqb-false}
use Rattle.hexadecimal.proofs.DecodeLaws.{decoded-more, too_long, odd-count, bad-pair, all-decoded, pair_of, pair-there}
use Rattle.hexadecimal.proofs.hex.decode.Goals as goal

pub returns-then-line-gt32768 : goal.returns-then-line-gt32768
returns-then-line-gt32768 c =
    too_long _ _ c.if-line-gt32768.true

pub returns-then-not-is_empty : goal.returns-then-not-is_empty
returns-then-not-is_empty c =
    odd-count _ _ (omega arith) (omega (arith, eqb-false _ _ (sym c.if-not-is_empty.ensures), c.as_chunks.ensures.back_len))

pub returns-in_err-out : goal.returns-in_err-out
returns-in_err-out c =
    let line = c.args.line.now in
    rw c.from_residual.ensures
    (bad-pair c.loop-i.invariant (omega arith) (omega arith)
    (omega (arith, eqb-true _ _ (sym c.if-not-is_empty.ensures), c.as_chunks.ensures.back_len)) (omega arith)
    (c.in_err-out.ensures ∙ ap (λ (ps : List (List ℕ)). pair_of (get_or ps c.loop-i.i [])) c.as_chunks.ensures.front
    ∙ pair-there line (length line / 2) c.loop-i.i (omega arith)))

pub loop-i-preserved : goal.loop-i-preserved
loop-i-preserved c =
    let line = c.args.line.now in
    decoded-more c.loop-i.invariant (omega arith) (omega arith)
    (c.in_ok-out.ensures ∙ ap (λ (ps : List (List ℕ)). pair_of (get_or ps c.loop-i.i [])) c.as_chunks.ensures.front
    ∙ pair-there line (length line / 2) c.loop-i.i (omega arith))

pub returns : goal.returns
returns c =
    rw c.as_chunks.ensures.front_len (all-decoded c.loop-i.invariant (omega arith) (omega arith)
    (omega (arith, eqb-true _ _ (sym c.if-not-is_empty.ensures), c.as_chunks.ensures.back_len)) (omega arith))
