-- Laws of the proofs of `arguments` alone.
mod ArgumentLaws
