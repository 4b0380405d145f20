-- Laws of the proofs of `rests` alone.
mod RestWalk
