-- What the contracts of the calls say, and what follows from them.
pub mod Outcomes
pub mod Lists
