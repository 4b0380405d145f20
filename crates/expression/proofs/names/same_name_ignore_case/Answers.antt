-- `same_name_ignore_case`: names of one length are the same if no byte differs; the loop keeps that the rest decides.
use native.Mathlib.Omega.{arith}
use mathlib.Core.Path.{sym, ◌∙◌}
use lib.ListN.{get_or}
use Rattle.expression.proofs.NameLaws.{other_length, same_more, same-less, same-all, small}
use Rattle.expression.proofs.names.same_name_ignore_case.Goals as goal

pub returns-then-name-other : goal.returns-then-name-other
returns-then-name-other c =
    sym (other_length c.args.name.now c.args.other.now c.if-name-other.true)

pub loop-i-preserved : goal.loop-i-preserved
loop-i-preserved c =
    let a = c.args in
    same_more a.name.now a.other.now c.if-name-other.false c.loop-i.i c.loop-i.invariant
    c.loop-i-test.true _ (c.to_ascii_lowercase.ensures.value ∙ small (get_or a.name.now c.loop-i.i 0)) c.if-to_ascii_lowercase-c.false

pub returns-then-to_ascii_lowercase-c : goal.returns-then-to_ascii_lowercase-c
returns-then-to_ascii_lowercase-c c =
    let a = c.args in
    sym (same-less a.name.now a.other.now c.if-name-other.false c.loop-i.i c.loop-i.invariant
    c.loop-i-test.true _ (c.to_ascii_lowercase.ensures.value ∙ small (get_or a.name.now c.loop-i.i 0)) c.if-to_ascii_lowercase-c.true)

pub returns : goal.returns
returns c =
    let a = c.args in
    sym (same-all a.name.now a.other.now c.if-name-other.false c.loop-i.i c.loop-i.invariant (omega (arith, c.loop-i-test.false)))
