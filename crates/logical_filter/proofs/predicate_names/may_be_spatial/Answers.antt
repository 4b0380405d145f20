-- `may_be_spatial`: a name of another length, or with another last letter, is none of them.
use native.Mathlib.Omega.{arith}
use mathlib.Core.Path.{◌∙◌}
use Rattle.std.proofs.Common.{inl, inr}
use lib.ListN.{length, get_or}
use Prim.Native.Nat.{◌-◌}
use Rattle.expression.proofs.NameLaws.{small}
use Rattle.logical_filter.proofs.NameEnds.{none-as-long, none-ends-so}
use Rattle.logical_filter.proofs.predicate_names.may_be_spatial.Goals as goal

pub returns-then-n-gt13 : goal.returns-then-n-gt13
returns-then-n-gt13 c =
    λ e. none-as-long c.args.name.now c.if-n-ne6.true
    (λ low high. elim c.if-n-gt13.either [ inl a ↦ omega (arith, a, low) | inr b ↦ omega (arith, b, high) ])

pub returns-then-last-ne121 : goal.returns-then-last-ne121
returns-then-last-ne121 c =
    λ e. none-ends-so c.args.name.now c.to_ascii_lowercase-last.result
    (c.to_ascii_lowercase-last.ensures.value ∙ small (get_or c.args.name.now (length c.args.name.now - 1) 0))
    c.if-last-ne110.true c.if-last-ne115.true c.if-last-ne121.true
