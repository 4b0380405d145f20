-- The two tests of the length are the definition's one.
use Rattle.frame_reader.proofs.Wholes.{length-refused, length-passes}
use Rattle.frame_reader.proofs.frame_bodies.first_byte.Goals as goal

pub returns-then-is_empty : goal.returns-then-is_empty
returns-then-is_empty c =
    length-refused _ c.is_empty.ensures c.then-is_empty.either

pub returns : goal.returns
returns c =
    length-passes _ c.is_empty.ensures c.if-is_empty.false c.if-s-gt-MOST_BYTES.false c.byte.result c.byte.ensures
