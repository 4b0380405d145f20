-- Each refusal is the definition's; a held frame or extraction is kept in the scratch, and exchanged where it stands.
use Rattle.node_reader.proofs.Reading.{kept}
use Rattle.node_reader.proofs.Standing.{all-bytes}
use Rattle.call_answers.proofs.Refusing.{exchange-call, no-room-for-n}
use Rattle.call_exchange.proofs.call.Exchanging.{HoldsPlan, holds_of, not-held, scratch-short, exchanges, is-exchangeable, still-there, still-all, held-there}
use Rattle.call_exchange.proofs.call.exchange.Goals as goal
use Rattle.call_exchange.proofs.call.exchange.Goals.{In_ok-held}

holds : (c : In_ok-held) → HoldsPlan c.args.n c.args.plan.now c.in_ok-held.held
holds c = holds_of _ _ c.in_ok-held.held c.if-plan-n.false c.in_ok-held.ensures

pub returns-then-plan-n : goal.returns-then-plan-n
returns-then-plan-n c =
    let a = c.args in no-room-for-n exchange-call a.n a.plan.now a.scratch.now c.if-plan-n.true

pub returns-in_err-held : goal.returns-in_err-held
returns-in_err-held c =
    let a = c.args in
    rw (kept c.from_residual.ensures) (not-held a.n a.plan.now a.scratch.now c.if-plan-n.false c.in_err-held.ensures)

pub returns-then-scratch-n : goal.returns-then-scratch-n
returns-then-scratch-n c =
    let a = c.args in
    let h = holds (goal.at.returns-then-scratch-n c).In_ok-held in
    scratch-short a.n a.plan.now a.scratch.now h.fits h.it (is-exchangeable h) h.is c.if-scratch-n.true

pub exchange_plan-requires : goal.exchange_plan-requires
exchange_plan-requires c =
    held-there (holds (goal.at.exchange_plan-requires c).In_ok-held) c.args.scratch.now c.copy_bytes.new.out c.copy_bytes.ensures
    (all-bytes c.args.plan.now c.slice_known-1.given)

pub returns : goal.returns
returns c =
    let a = c.args in
    let h = holds (goal.at.returns c).In_ok-held in
    let at = c.copy_bytes.new.out in
    let copied = c.copy_bytes.ensures in
    let bytes = all-bytes a.plan.now c.slice_known-1.given in
    exchanges a.n a.plan.now a.scratch.now h.fits h.it (is-exchangeable h) h.is c.if-scratch-n.false bytes c.exchange_plan.new.plan at
    (c.exchange_plan.ensures h.it (still-there h a.scratch.now at copied) (still-all h a.scratch.now at copied bytes)) copied
