-- `chain_place`: from its link on the chain has what it has from the start, and links fall.
use Prim.Native.Nat.{◌-◌, ◌<◌}
use native.Mathlib.Omega.{arith}
use lib.ListN.{length}
use Rattle.projection.proofs.ChainLaws.{search-inside, search-found, search-goes-on, search-ends}
use Rattle.projection.proofs.places.chain_place.Goals as goal
use Rattle.projection.proofs.places.chain_place.Goals.{In-loop-link}

inside : (c : In-loop-link)
    → let link = c.loop-link.link in
    let args = c.args in (link - 1 < length args.items.now) × (link - 1 < length args.chains.nexts.now)
inside c =
    let inv = c.loop-link.invariant in
    let here = search-inside inv c.loop-link-test.true in
    (here, omega (arith, inv.room))

pub returns-then-items-k : goal.returns-then-items-k
returns-then-items-k c =
    search-found c.loop-link.invariant c.loop-link-test.true c.if-items-k.true

pub loop-link-preserved : goal.loop-link-preserved
loop-link-preserved c =
    rw c.from-link-in-loop-link.ensures (search-goes-on c.loop-link.invariant c.loop-link-test.true c.if-items-k.false)

pub returns : goal.returns
returns c =
    search-ends c.loop-link.invariant c.loop-link-test.false
