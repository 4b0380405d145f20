-- `run`: between two reads the state stands for what came before.
mod Running
use Rattle.spatialjoin.proofs.run.Answers.Running.{reached-none, reached-more, reached-end}
use Rattle.spatialjoin.proofs.run.Goals as goal

pub loop-init : goal.loop-init
loop-init c = reached-none c.fresh-state.ensures.filled_value (c.fresh-state.ensures.by_index _ c.requires)

pub loop-preserved : goal.loop-preserved
loop-preserved c = reached-more c.read_on.new.chunk c.loop.invariant (rw c.in-More.is at c.in_ok-next.ensures)

pub returns-in-Ended : goal.returns-in-Ended
returns-in-Ended c = reached-end c.read_on.new.chunk c.loop.invariant (rw c.in-Ended.is at c.in_ok-next.ensures)
