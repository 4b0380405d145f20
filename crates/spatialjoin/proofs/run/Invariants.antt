-- `run`: between two reads the state stands for what came before.
use Rattle.spatialjoin.specs.Runs.{Reached}
use Rattle.spatialjoin.proofs.run.Given as goal

abbrev pub invariant-loop : goal.invariant-loop
invariant-loop l = Reached l.buffers l.state
