-- Laws of the proofs of `held_frame` alone.
mod Extracting
