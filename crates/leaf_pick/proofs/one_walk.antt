-- Laws of the proofs of `one_walk` alone.
mod Taking
