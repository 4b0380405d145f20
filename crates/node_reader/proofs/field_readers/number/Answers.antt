-- The loop has read the first digits, and the rest are left to read from the place reached.
use native.Mathlib.Omega.{arith}
use mathlib.Core.Path.{◌≡◌, ◌∙◌}
use Prim.Native.Nat.{ℕ, ◌+◌}
use lib.ListN.{get_or}
use Rattle.std.proofs.lemmas.List.{length-take, length-drop}
use Rattle.node_reader.proofs.Numbers.{number-ends, digits-none, digits_more, digits-fit, digits-all, of-part}
use Rattle.node_reader.proofs.field_readers.number.Goals as goal

pub returns-then-s-at : goal.returns-then-s-at
returns-then-s-at c =
    λ n. let a = c.args in number-ends a.s.now a.at _ n c.if-s-at.true

pub loop-b-init : goal.loop-b-init
loop-b-init c =
    digits-none _ _ _

pub overflow_mul-value : goal.overflow_mul-value
overflow_mul-value c =
    omega (arith, length-take {A = ℕ}, digits-fit _ _ c.loop-b.invariant.small (omega (arith, length-take {A = ℕ})))

pub overflow_add-value : goal.overflow_add-value
overflow_add-value c =
    omega (arith, digits-fit _ _ c.loop-b.invariant.small (omega (arith, length-take {A = ℕ})))

pub loop-b-preserved : goal.loop-b-preserved
loop-b-preserved c =
    let a = c.args in
    let i = c.loop-b.b-index in
    let digit : c.from.result ≡ get_or a.s.now (a.at + i) 0 =
    c.from.ensures ∙ of-part a.s.now a.at a.width i (omega (arith, length-take {A = ℕ})) in
    digits_more _ _ _ _ _ _ c.loop-b.invariant (omega arith) (omega (arith, length-take {A = ℕ})) digit
    (omega (arith, c.type_inv.s (a.at + i)))

pub returns : goal.returns
returns c =
    (omega arith, digits-all _ _ _ _ _ c.loop-b.invariant (omega (arith, length-take {A = ℕ}, length-drop {A = ℕ})))
