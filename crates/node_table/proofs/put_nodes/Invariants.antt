-- `put_nodes`: i records are put.
use Rattle.std.proofs.Common.{◌≡◌, ℕ, ◌<◌, get_or}
use Rattle.node_table.specs.Records.{blank}
use Rattle.node_table.proofs.put_nodes.Given as goal

abbrev pub invariant-loop-i : goal.invariant-loop-i
invariant-loop-i l =
    (j : ℕ) → j < l.i → get_or l.place-items j blank ≡ get_or l.nodes j blank
