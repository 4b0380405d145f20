-- `write_last`: what the end of the input gives fits its buffer.
use native.Mathlib.Omega.{arith}
use Rattle.lines.proofs.SessionLaws.{finished-room}
use Rattle.spatialjoin.proofs.write_last.Goals as goal

pub flush-requires : goal.flush-requires
flush-requires c = finished-room c.finish-last.ensures (omega arith) (omega arith)
