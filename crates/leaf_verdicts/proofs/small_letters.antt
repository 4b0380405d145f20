-- Laws of the proofs of `small_letters` alone.
mod NameLaws
