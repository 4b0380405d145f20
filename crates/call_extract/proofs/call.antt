-- Laws of the proofs of `call` alone.
mod Collecting
