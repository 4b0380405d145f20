-- A good frame whose text has room is written; each refusal is the frame's own, 15 for the room.
mod Texting
use Rattle.node_reader.proofs.Reading.{kept}
use Rattle.node_reader.proofs.Standing.{all-bytes}
use Rattle.call_print.proofs.print.Answers.Texting.{print-refuses, text-there, print-short, text-room, print-writes}
use Rattle.call_print.proofs.print.Goals as goal

pub returns-in_err-f : goal.returns-in_err-f
returns-in_err-f c =
    rw (kept c.from_residual.ensures) (print-refuses _ _ _ c.in_err-f.ensures)

pub has_room-requires : goal.has_room-requires
has_room-requires c =
    let good = c.in_ok-f.ensures in
    let a = c.args in
    text-there a.frame.now a.text.now good.0 good.2 _ good.1 (all-bytes a.frame.now c.shared_slice_known-1.given)

pub returns-then-not-has_room : goal.returns-then-not-has_room
returns-then-not-has_room c =
    let good = c.in_ok-f.ensures in
    let a = c.args in
    print-short a.frame.now a.text.now good.0 good.2 _ good.1 (all-bytes a.frame.now c.shared_slice_known-1.given) _ c.has_room.ensures
    c.if-not-has_room.true

pub print_node-put-requires : goal.print_node-put-requires
print_node-put-requires c =
    let good = c.in_ok-f.ensures in
    let a = c.args in
    text-room a.frame.now a.text.now good.0 good.2 _ good.1 (all-bytes a.frame.now c.shared_slice_known-1.given) _ c.has_room.ensures
    c.if-not-has_room.false

pub returns : goal.returns
returns c =
    let good = c.in_ok-f.ensures in
    let a = c.args in
    let put = c.print_node-put in
    print-writes a.frame.now a.text.now good.0 good.2 _ good.1 (all-bytes a.frame.now c.shared_slice_known-1.given) _ c.has_room.ensures
    c.if-not-has_room.false put.new.out put.result put.ensures
