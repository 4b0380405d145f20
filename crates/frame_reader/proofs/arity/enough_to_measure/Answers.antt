-- `enough_to_measure`: an `st_distance` call needs two arguments, any other expression none.
use mathlib.Core.Path.{sym, ap}
use Rattle.definitions.specs.Words.Leaves.{distance_arity}
use Rattle.filter_tree.proofs.Indexes.{starts-there}
use Rattle.frame_reader.proofs.ArityLaws.{distance-needs}
use Rattle.frame_reader.proofs.arity.enough_to_measure.Goals as goal

pub distance_arguments-requires : goal.distance_arguments-requires
distance_arguments-requires c =
    let r = c.requires in
    (r.0, r.2, starts-there r.3 r.4 c.start.ensures)

pub returns-in-Some : goal.returns-in-Some
returns-in-Some c =
    λ d at t stands h. distance-needs (c.in-Some.ensures d t (starts-there stands h c.start.ensures))

pub returns-in-None : goal.returns-in-None
unfolding distance_arity
returns-in-None c =
    λ d at t stands h. sym (ap distance_arity (c.in-None.ensures d t (starts-there stands h c.start.ensures)))
