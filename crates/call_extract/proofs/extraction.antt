-- Laws of the proofs of `extraction` alone.
mod Taking
