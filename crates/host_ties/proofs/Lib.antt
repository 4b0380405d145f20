-- Each call's contract is a host's call.
pub mod Ties
