-- Laws of the proofs of `distance` alone.
mod DistanceLaws
