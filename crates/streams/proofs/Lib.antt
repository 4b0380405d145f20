-- Laws that the proofs use: reads and writes.
pub mod Handing
