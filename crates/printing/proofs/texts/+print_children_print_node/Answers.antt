-- `print_node` and `print_children`: what a node opens with, its children with what stands before each, and what it closes with; a node
-- walk goes further on, a row walk to a node at its own place.
use native.Mathlib.Omega.{arith}
use Rattle.expression.proofs.Standing.{node-some}
use Rattle.printing.proofs.NodeFields.{kind-within}
use Rattle.printing.proofs.PrintWalk.{opening-room, children-later, children-fit, closing-room, node-printed, printing-begins, printing-ends, before-room, child-room, printing-goes-on}
use Rattle.printing.proofs.texts.+print_children_print_node.Goals as goal

pub print_children-loop-position-init : goal.print_children-loop-position-init
print_children-loop-position-init t c =
    printing-begins c.requires

pub print_children-put_before-v-requires : goal.print_children-put_before-v-requires
print_children-put_before-v-requires t c =
    before-room c.loop-position.invariant c.loop-position-test.true

pub print_children-print_node-one-requires : goal.print_children-print_node-one-requires
print_children-print_node-one-requires t c =
    let inv = c.loop-position.invariant in
    let put = c.put_before-v in (
      omega (arith, c.decreases, inv.low),
      child-room inv c.loop-position-test.true put.ensures put.auto.out,
    )

pub print_children-loop-position-preserved : goal.print_children-loop-position-preserved
print_children-loop-position-preserved t c =
    let put = c.put_before-v in
    let one = c.print_node-one in
    printing-goes-on c.loop-position.invariant c.loop-position-test.true put.ensures put.auto.out one.ensures one.auto.out

pub print_children-returns : goal.print_children-returns
print_children-returns t c =
    printing-ends c.loop-position.invariant c.loop-position-test.false

pub print_node-bounds-src-at : goal.print_node-bounds-src-at
print_node-bounds-src-at t c =
    kind-within c.requires.stands

pub print_node-put_opening-first-requires : goal.print_node-put_opening-first-requires
print_node-put_opening-first-requires t c =
    opening-room c.requires

pub print_node-print_children-row-requires : goal.print_node-print_children-row-requires
print_node-print_children-row-requires t c =
    let put = c.put_opening-first in
    let head = c.head_at-head in
    let room = c.requires in (
      omega (
        arith,
        c.decreases,
        node-some room.stands.stands,
        children-later room put.ensures put.auto.out head.result head.ensures,
      ),
      children-fit room put.ensures put.auto.out head.result head.ensures,
    )

pub print_node-put_closing-wrote-requires : goal.print_node-put_closing-wrote-requires
print_node-put_closing-wrote-requires t c =
    let put = c.put_opening-first in
    let head = c.head_at-head in
    let filled = c.print_children-row in
    closing-room c.requires put.ensures put.auto.out head.result head.ensures filled.ensures filled.auto.out

pub print_node-returns : goal.print_node-returns
print_node-returns t c =
    let put = c.put_opening-first in
    let head = c.head_at-head in
    let filled = c.print_children-row in
    node-printed c.requires put.ensures put.auto.out head.result head.ensures filled.ensures filled.auto.out
    c.put_closing-wrote.ensures
