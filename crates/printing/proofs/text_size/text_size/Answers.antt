-- `text_size`: a turn passes one node; its own characters and those of what is left are those of the whole.
use native.Mathlib.Omega.{arith}
use Rattle.printing.proofs.Sizing.{sizing-begins, sizing-ends, tree-there, counted, head-later, sizing-goes-on, size_small}
use Rattle.printing.proofs.text_size.text_size.Goals as goal

pub loop-next-init : goal.loop-next-init
loop-next-init c =
    sizing-begins c.requires

pub head_at-head-requires : goal.head_at-head-requires
head_at-head-requires c =
    tree-there c.loop-next.invariant c.loop-next-test.true

pub own_size-size-requires : goal.own_size-size-requires
own_size-size-requires c =
    counted c.loop-next.invariant c.loop-next-test.true c.head_at-head.result c.head_at-head.ensures

pub loop-next-preserved : goal.loop-next-preserved
loop-next-preserved c =
    let head = c.head_at-head in
    sizing-goes-on c.loop-next.invariant c.loop-next-test.true head.result head.ensures
    c.own_size-size.result c.own_size-size.ensures

pub returns : goal.returns
returns c =
    sizing-ends c.loop-next.invariant c.loop-next-test.false

pub overflow_add-size : goal.overflow_add-size
overflow_add-size c =
    let head = c.head_at-head in
    omega (
      arith,
      size_small c.loop-next.invariant c.loop-next-test.true head.result head.ensures
          c.own_size-size.result c.own_size-size.ensures,
    )

pub loop-next-smaller : goal.loop-next-smaller
loop-next-smaller c =
    let head = c.head_at-head in
    omega (
      arith,
      c.loop-next-test.true,
      head-later c.loop-next.invariant c.loop-next-test.true head.result head.ensures,
    )
