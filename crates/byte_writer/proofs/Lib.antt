-- Laws that several proofs use.
pub mod Written
pub mod NumberLaws
pub mod Sequence
pub mod SpanLaws
