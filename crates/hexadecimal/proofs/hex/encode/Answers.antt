-- `encode`: the digits of the bytes so far are written, and a turn adds two.
use native.Mathlib.Omega.{arith}
use lib.ListN.{length-set}
use Rattle.hexadecimal.proofs.EncodeLaws.{encoded-none, encoded-room, encoded-more}
use Rattle.hexadecimal.proofs.hex.encode.Goals as goal

pub loop-byte-init : goal.loop-byte-init
loop-byte-init c =
    encoded-none _ _ _

pub bounds-out-next : goal.bounds-out-next
bounds-out-next c =
    omega (arith, encoded-room c.loop-byte.invariant c.loop-byte-test.true c.requires)

pub bounds-out-next-in-loop-byte : goal.bounds-out-next-in-loop-byte
bounds-out-next-in-loop-byte c =
    simp length-set (encoded-room c.loop-byte.invariant c.loop-byte-test.true c.requires)

pub loop-byte-preserved : goal.loop-byte-preserved
loop-byte-preserved c =
    rw (c.digit.ensures, c.digit-in-loop-byte.ensures)
    (encoded-more c.loop-byte.invariant c.loop-byte-test.true (omega arith)
    (encoded-room c.loop-byte.invariant c.loop-byte-test.true c.requires))
