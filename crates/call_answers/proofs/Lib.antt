-- Laws that the proofs of extract and exchange use, and the theorem about lists of calls.
pub mod Keeping
pub mod Refusing
pub mod Walking
pub mod DemandThree
pub mod Settling
