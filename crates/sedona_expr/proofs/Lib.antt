-- Laws that several proofs use.
pub mod Comparing
pub mod Distances
