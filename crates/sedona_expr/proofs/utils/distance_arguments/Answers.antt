-- `distance_arguments`: only a function has a name, and it is compared byte by byte.
use Rattle.definitions.specs.Words.Basics.{ascii}
use Rattle.sedona_expr.proofs.Comparing.{no_arguments, distance-named}
use Rattle.sedona_expr.proofs.utils.distance_arguments.Goals as goal

pub returns-in_default : goal.returns-in_default
unfolding ascii
returns-in_default c =
    λ d t h. no_arguments d _ _ t c.node_at.result c.in_default.not-Call (c.node_at.ensures d t h)

pub returns : goal.returns
unfolding ascii
returns c =
    λ d t h. rw c.then_some.ensures (distance-named (c.in-Call.ensures d t h) c.same_name.result
    (rw c.name.ensures at c.same_name.ensures))
