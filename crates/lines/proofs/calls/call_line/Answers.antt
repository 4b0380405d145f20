-- `call_line`: the first byte decides, as in the definition.
use Rattle.std.proofs.Common.{Ok, Err}
use native.Mathlib.Omega.{arith}
use Rattle.std.proofs.lemmas.Result.{err_from_is_err_and}
use Rattle.definitions.specs.Lists.Machine.{extract_call, exchange_call}
use Rattle.definitions.specs.Lists.Program.{line_call}
use mathlib.Core.Path.{sym, ◌∙◌}
use Rattle.call_extract.proofs.Settling.{filled-default}
use Rattle.lines.proofs.CallLaws.{load_gives, alone-gives, more-follow, more-leave}
use Rattle.lines.proofs.LineLaws.{refused-line, no_bytes, begins, other_byte, none-leave, other-leaves, load-line, logical-line, extract-line, exchange-line}
use Rattle.lines.proofs.calls.call_line.Goals as goal

pub returns-then-size-eq0 : goal.returns-then-size-eq0
returns-then-size-eq0 c = record {
  answer_is = rw (← no_bytes _ _ _ c.if-size-eq0.true) (refused-line _ _ _);
  scratch_after = none-leave _ _ _ _ c.if-size-eq0.true;
}

pub returns-in_err-loaded-in-1 : goal.returns-in_err-loaded-in-1
returns-in_err-loaded-in-1 c =
    let p = err_from_is_err_and c.from_residual.result c.from_residual.ensures.1 in
    let both = load-line _ (begins c.args.size c.args.scratch.now c.if-size-eq0.false c.requires.0) _ c.in-1.is
    (load_gives _ _ c.args.n (Err c.in_err-loaded-in-1.field-0.0) c.in_err-loaded-in-1.ensures) in
    rw (p.1, p.2) (record { answer_is = both.0; scratch_after = both.1 })

pub returns-in_ok-loaded-in-1 : goal.returns-in_ok-loaded-in-1
returns-in_ok-loaded-in-1 c =
    let both = load-line _ (begins c.args.size c.args.scratch.now c.if-size-eq0.false c.requires.0) _ c.in-1.is
    (load_gives _ _ c.args.n (Ok c.in_ok-loaded-in-1.loaded) c.in_ok-loaded-in-1.ensures) in
    record { answer_is = both.0; scratch_after = both.1 }

pub returns-in-2 : goal.returns-in-2
returns-in-2 c =
    let both = logical-line _ (begins c.args.size c.args.scratch.now c.if-size-eq0.false c.requires.0) _ c.in-2.is
    (c.logical_line.ensures _ _) in
    record { answer_is = both.0; scratch_after = both.1 }

pub returns-in_err-alone-in-33 : goal.returns-in_err-alone-in-33
returns-in_err-alone-in-33 c =
    let p = err_from_is_err_and c.from_residual-in_err-alone-in-33.result c.from_residual-in_err-alone-in-33.ensures.1 in
    let more = c.in_err-alone-in-33.ensures in
    let both = extract-line _ (begins c.args.size c.args.scratch.now c.if-size-eq0.false c.requires.0) _ c.in-33.is (
      rw (← more-follow _ _ c.args.scratch.now _ more.1 (omega arith)) (refused-line _ c.args.plan.now _),
      more-leave _ _ c.args.scratch.now _ _ more.1 (omega arith),
    ) in
    rw (p.1, p.2, more.0) (record { answer_is = both.0; scratch_after = both.1 })

pub returns-in_err-alone-in-34 : goal.returns-in_err-alone-in-34
returns-in_err-alone-in-34 c =
    let p = err_from_is_err_and c.from_residual-in_err-alone-in-34.result c.from_residual-in_err-alone-in-34.ensures.1 in
    let more = c.in_err-alone-in-34.ensures in
    let both = exchange-line _ (begins c.args.size c.args.scratch.now c.if-size-eq0.false c.requires.0) _ c.in-34.is (
      rw (← more-follow _ _ c.args.scratch.now _ more.1 (omega arith)) (refused-line _ c.args.plan.now _),
      more-leave _ _ c.args.scratch.now _ _ more.1 (omega arith),
    ) in
    rw (p.1, p.2, more.0) (record { answer_is = both.0; scratch_after = both.1 })

pub returns-in_ok-alone-in-33 : goal.returns-in_ok-alone-in-33
unfolding line_call
returns-in_ok-alone-in-33 c =
    let both = extract-line _ (begins c.args.size c.args.scratch.now c.if-size-eq0.false c.requires.0) _ c.in-33.is
    (alone-gives extract_call _ _ c.in_ok-alone-in-33.ensures _ _ _ c.extract.result.answer
    (sym (filled-default _ _ _ _ c.default_settings.ensures) ∙ c.extract.ensures.outcome) c.requires.1) in
    rw c.of_call.ensures (record { answer_is = both.0; scratch_after = both.1 })

pub returns-in_ok-alone-in-34 : goal.returns-in_ok-alone-in-34
unfolding line_call
returns-in_ok-alone-in-34 c =
    let both = exchange-line _ (begins c.args.size c.args.scratch.now c.if-size-eq0.false c.requires.0) _ c.in-34.is
    (alone-gives exchange_call _ _ c.in_ok-alone-in-34.ensures _ _ _ c.exchange.result c.exchange.ensures c.requires.1) in
    rw c.of_call-in-34.ensures (record { answer_is = both.0; scratch_after = both.1 })

pub returns-in_default : goal.returns-in_default
returns-in_default c =
    let not = c.in_default.in_default-own.rest in
    let is = begins c.args.size c.args.scratch.now c.if-size-eq0.false c.requires.0 in record {
      answer_is = rw (← other_byte _ is not.0.0.0.1 not.0.0.1 not.0.1 not.1) (refused-line _ _ _);
      scratch_after = other-leaves _ is _ not.0.1 not.1;
    }
