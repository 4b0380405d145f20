-- Laws that several proofs use.
pub mod ListLaws
pub mod AllLaws
pub mod Calling
