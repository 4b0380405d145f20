-- What the contract cites.
pub mod Answers
