-- `name_like`: one byte more at each turn.
use Rattle.std.proofs.Common.{rules}
use Rattle.theorems.proofs.Tools.{all-bytes}
use Rattle.node_reader.proofs.NameBytes.{like-none, like-more}
use Rattle.node_reader.proofs.names.name_like.Goals as goal

pub loop-b-init : goal.loop-b-init
loop-b-init c =
    like-none c.args.bytes.now

pub loop-b-preserved : goal.loop-b-preserved
loop-b-preserved c =
    rw c.loop-b.invariant (like-more _ _ c.loop-b-test.true (search (rules, all-bytes)))
