-- Laws of the proofs of `first_match` alone.
mod Defaults
