-- Laws that the proofs use: records, arity and frames that were read.
pub mod ArityLaws
pub mod FrameRows
pub mod Heads
pub mod Held
pub mod Standing
pub mod Wholes
