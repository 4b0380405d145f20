-- Laws of the proofs of `taken` alone.
mod TakenLaws
