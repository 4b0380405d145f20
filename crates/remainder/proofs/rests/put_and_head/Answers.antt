-- `put_and_head`: nothing is written where a side is gone, else the two bytes before the left side.
use mathlib.Core.Path.{refl}
use Rattle.remainder.proofs.RestLaws.{and-headed}
use Rattle.remainder.proofs.rests.put_and_head.Goals as goal

pub returns : goal.returns
returns c =
    and-headed c.if-left-middle.false c.if-middle-end.false c.requires.0 c.requires.1 _ refl
