-- `collect_piece`: the characters so far joined the line, and none of them is a line feed.
use Rattle.lines.proofs.CollectLaws.{Collecting}
use Rattle.lines.proofs.collecting.collect_piece.Given as goal

abbrev pub invariant-loop-at : goal.invariant-loop-at
invariant-loop-at l = Collecting l.piece l.initial.line l.count l.at l.line l.counted
