-- `feed`: what is collected is a piece of the input, which ends a line or goes on with it.
use native.Mathlib.Omega.{arith}
use Rattle.lines.proofs.SessionLaws.{fed-none, fed-ended, fed-open}
use Rattle.lines.proofs.feeding.feed.Goals as goal

pub returns-then-state-gt-MOST_FILLED : goal.returns-then-state-gt-MOST_FILLED
returns-then-state-gt-MOST_FILLED c = fed-none _ _ _ c.if-state-gt-MOST_FILLED.true

pub returns-then-collected : goal.returns-then-collected
returns-then-collected c =
    fed-ended c.args.state _ _ _ c.collect_piece-collected.ensures (omega arith) c.if-collected.true c.end_begun.ensures (omega arith)

pub returns-else-collected : goal.returns-else-collected
returns-else-collected c = fed-open c.args.state _ _ _ c.collect_piece-collected.ensures (omega arith) c.if-collected.false
