-- Laws that the proofs use: arguments, heads and predicates that were written.
pub mod Fields
pub mod Ranges
pub mod Copying
pub mod TableLaws
pub mod ChildLaws
pub mod PredicateLaws
