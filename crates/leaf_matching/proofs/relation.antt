-- Laws of the proofs of `relation` alone.
mod RelationLaws
