-- `read_on`: what waits then fits its buffer.
use native.Mathlib.Omega.{arith}
use Rattle.streams.proofs.Handing.{fits_after}
use Rattle.spatialjoin.proofs.read_on.Goals as goal

pub flush-requires : goal.flush-requires
flush-requires c = fits_after (rw c.in-More.is at c.in_ok-next.ensures) (omega arith)
