-- `explain_by`: a refused frame has its own refusal; of a good one, whose nodes are in the row, the verdicts that were written are copied.
use native.Mathlib.Omega.{arith}
use mathlib.Core.Path.{refl, ap}
use mathlib.Core.List.{◌++◌}
use lib.ListN.{drop}
use Rattle.node_reader.proofs.Reading.{kept}
use Rattle.call_explain.proofs.call.Explaining.{explain-refused, too_short, copied, read-laid, read-within, few-leaves}
use Rattle.call_explain.proofs.call.explain_by.Goals as goal

pub shared_whole_as_front-tree : goal.shared_whole_as_front-tree
shared_whole_as_front-tree g c =
    let within = read-within _ c.physical_frame_in.new.row c.in_ok-parts.ensures in
    (omega (arith, within, c.physical_frame_in.auto.row), omega (arith, c.requires.1))

pub put_verdicts-count-requires : goal.put_verdicts-count-requires
put_verdicts-count-requires g c =
    let h = c.in_ok-parts.ensures in
    (_, h.0.records, h.0.expr, read-laid _ _ h, omega (arith, few-leaves _ _ h))

pub returns-in_err-parts : goal.returns-in_err-parts
returns-in_err-parts g c =
    rw (kept c.from_residual.ensures)
    (explain-refused _ c.args.settings.good.good _ _ _ c.in_err-parts.ensures)

pub returns-then-out-count : goal.returns-then-out-count
returns-then-out-count g c =
    let h = c.in_ok-parts.ensures in
    too_short _ c.args.settings.good.good _ _ h.0 h.2
    (omega (arith, c.if-out-count.true, (c.put_verdicts-count.ensures _ h.0.records h.0.expr (read-laid _ _ h)).counted))

pub returns : goal.returns
returns g c =
    let h = c.in_ok-parts.ensures in
    let count = c.put_verdicts-count.result in
    copied _ c.args.settings.good.good _ _ h.0 h.2 (c.put_verdicts-count.ensures _ h.0.records h.0.expr (read-laid _ _ h))
    c.if-out-count.false _ (ap (λ l. l ++ drop count c.args.out.now) c.copy_apart.ensures) _ refl c.named_by.ensures

pub shared_whole_as_front-copy_apart : goal.shared_whole_as_front-copy_apart
shared_whole_as_front-copy_apart g c =
    let h = c.in_ok-parts.ensures in
    let held = few-leaves _ _ h in
    let counted = (c.put_verdicts-count.ensures _ h.0.records h.0.expr (read-laid _ _ h)).counted in
    let kept = c.put_verdicts-count.auto.out in
    (omega (arith, held, counted, kept), omega (arith, kept, c.requires.1))
