-- `collect_piece`: the characters so far joined the line, and none of them is a line feed.
use Rattle.lines.proofs.CollectLaws.{collect-one, collect-past, at-feed, at-end}
use Rattle.lines.proofs.collecting.collect_piece.Goals as goal
use Rattle.lines.proofs.collecting.collect_piece.Goals.{then-counted-line, else-counted-line}

pub returns-then-c-eq10 : goal.returns-then-c-eq10
returns-then-c-eq10 c = at-feed c.loop-at.invariant c.loop-at-test.true c.if-c-eq10.true

pub loop-at-preserved : goal.loop-at-preserved
loop-at-preserved c =
    elim c.if-counted-line.branch [
      | then-counted-line w ↦
          rw (w.line-is, w.counted-is) (collect-one c.loop-at.invariant c.loop-at-test.true c.if-c-eq10.false w.if-counted-line.true)
      | else-counted-line w ↦
          rw (w.line-is, w.counted-is) (collect-past c.loop-at.invariant c.loop-at-test.true c.if-c-eq10.false w.if-counted-line.false)
    ]

pub returns : goal.returns
returns c = at-end c.loop-at.invariant c.loop-at-test.false
