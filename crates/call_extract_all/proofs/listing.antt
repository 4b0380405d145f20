-- Laws of the proofs of `listing` alone.
mod LeafList
mod ListWalk
