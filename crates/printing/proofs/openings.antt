-- Laws of the proofs of `openings` alone.
mod NameLaws
