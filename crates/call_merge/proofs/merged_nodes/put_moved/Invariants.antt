-- `put_moved`: i records are put.
use Rattle.std.proofs.Common.{◌≡◌, ℕ, ◌<◌, get_or}
use Rattle.node_table.specs.Records.{blank}
use Rattle.call_merge.specs.MergedNodes.{moved}
use Rattle.call_merge.proofs.merged_nodes.put_moved.Given as goal

abbrev pub invariant-loop-i : goal.invariant-loop-i
invariant-loop-i l =
    (j : ℕ) → j < l.i → get_or l.place-items j blank ≡ moved l.by (get_or l.nodes j blank)
