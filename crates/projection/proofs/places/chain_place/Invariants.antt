-- `chain_place`: from its link on the chain has what it has from the start, and links fall.
use Rattle.projection.specs.Chains.{link_of}
use Rattle.projection.proofs.ChainLaws.{Searching}
use Rattle.projection.proofs.places.chain_place.Given as goal

abbrev pub invariant-loop-link : goal.invariant-loop-link
invariant-loop-link l =
    let chains = l.fn.chains in
    Searching l.items chains.nexts.now l.index (link_of chains.heads.now l.index) l.link

abbrev pub decreases-loop-link : goal.decreases-loop-link
decreases-loop-link l =
    l.link
