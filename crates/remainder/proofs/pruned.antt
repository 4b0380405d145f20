-- Laws of the proofs of `pruned` alone.
mod PrunedLaws
