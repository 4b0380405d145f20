-- Laws that several proofs use.
pub mod Filling
pub mod RecordLaws
