-- `put_rest`: the part of which no more is known.
use Rattle.remainder.proofs.rests.put_rest.Goals as goal

pub put_part-requires : goal.put_part-requires
put_part-requires c = record {
  rest_fits = c.requires.rest_fits;
  of_tree = λ d u stands. (c.requires.of_tree d u stands, tt);
}
