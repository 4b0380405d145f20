-- What the contract cites.
pub mod Loads
