-- Laws of the proofs of `explain` alone.
mod ExplainSmall
