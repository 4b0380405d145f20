-- `exchange_plan`: what stands there is a frame or an extraction, and what is written makes the exchanged one of it.
use Rattle.call_exchange.proofs.PlanLaws.{frame-within, remainder-within, swapped-room, frame-exchanged, extraction-exchanged}
use Rattle.call_exchange.proofs.exchanged_plans.exchange_plan.Goals as goal

pub negate_sides-requires : goal.negate_sides-requires
negate_sides-requires c =
    frame-within c.args.src.now (rw c.in-Frame.is at c.requires)

pub put_swapped-requires : goal.put_swapped-requires
put_swapped-requires c =
    swapped-room c.args.src.now (rw c.in-Extraction.is at c.requires) _ c.swap_for_swapped_children-swapped.ensures

pub negate_remainder-requires : goal.negate_remainder-requires
negate_remainder-requires c =
    remainder-within c.args.src.now (rw c.in-Extraction.is at c.requires) c.put_swapped.new.plan c.put_swapped.auto.plan

pub returns-in-Frame : goal.returns-in-Frame
returns-in-Frame c =
    rw c.in-Frame.is (frame-exchanged c.args.src.now c.negate_sides.ensures)

pub returns-in-Extraction : goal.returns-in-Extraction
returns-in-Extraction c =
    let swapped = c.swap_for_swapped_children-swapped in
    rw c.in-Extraction.is
    (extraction-exchanged c.args.src.now c.in-Extraction.x swapped.result _ c.put_swapped.new.plan _ swapped.ensures c.put_swapped.ensures
    c.negate_remainder.ensures)
