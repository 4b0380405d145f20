-- `put_figures`: its places to its base.
use Rattle.byte_writer.proofs.NumberLaws.{figures-are}
use Rattle.byte_writer.proofs.numbers.put_figures.Goals as goal

pub returns : goal.returns
returns c =
    rw (figures-are c.args.width c.args.value) at c.put_places.ensures
