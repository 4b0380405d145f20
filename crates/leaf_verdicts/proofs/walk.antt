-- Laws of the proofs of `walk` alone.
mod WalkLaws
