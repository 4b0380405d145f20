-- `put_number`: its places to its base.
use Rattle.byte_writer.proofs.NumberLaws.{bytes-are}
use Rattle.byte_writer.proofs.numbers.put_number.Goals as goal

pub returns : goal.returns
returns c =
    rw (bytes-are c.args.width c.args.value) at c.put_places.ensures
