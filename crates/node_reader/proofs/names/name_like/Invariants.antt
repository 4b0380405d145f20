-- `name_like`: one byte more at each turn.
use mathlib.Core.Path.{◌≡◌}
use lib.ListN.{take}
use Rattle.node_reader.specs.Fields.{name_like}
use Rattle.node_reader.proofs.names.name_like.Given as goal

abbrev pub invariant-loop-b : goal.invariant-loop-b
invariant-loop-b l =
    l.like ≡ name_like (take l.b-index l.bytes)
