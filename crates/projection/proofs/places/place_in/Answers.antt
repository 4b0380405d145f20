-- `place_in`: the chains have the index where it stands first in the list.
use Rattle.projection.proofs.places.place_in.Goals as goal

pub chain_place-requires : goal.chain_place-requires
chain_place-requires c =
    let there = rw c.in-Some.is at c.requires in
    record { chains = there.chains; room = there.room; place = _; walk = there.walk }
