-- `name_bit`: the names stand in the order of their bits, and no name stands twice.
use mathlib.Core.Path.{◌∙◌}
use native.Mathlib.Omega.{arith}
use Rattle.logical_filter.proofs.NameMasks.{bit-at, no-bit, kept}
use Rattle.logical_filter.proofs.predicate_names.name_bit.Goals as goal

pub overflow_shl-result : goal.overflow_shl-result
overflow_shl-result c = omega (arith, (bit-at _ c.args.names.now c.requires.apart c.in-Some.ensures).0)

pub returns-in-Some : goal.returns-in-Some
returns-in-Some c =
    let found = bit-at _ c.args.names.now c.requires.apart c.in-Some.ensures in
    kept c.in-Some.i (omega arith) ∙ found.1

pub returns-in-None : goal.returns-in-None
returns-in-None c = no-bit _ c.args.names.now c.in-None.ensures
