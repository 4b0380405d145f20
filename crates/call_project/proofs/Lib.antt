-- Laws that the proofs use: what the call leaves.
pub mod ProjectCall
