-- Laws that the proofs use: extractions and held plans that were read.
pub mod Fields
pub mod Extractions
pub mod Remainders
