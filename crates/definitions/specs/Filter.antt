-- What is made of a filter: its matches, its pick and what is left of it, the exchange, and what the requests make of it.
pub mod Match
pub mod Extract
pub mod OneWalk
pub mod Exchange
-- What the requests make of it: 2, 7, 13 and 14.
pub mod Merge
pub mod Project
pub mod Settings
pub mod Conjuncts
-- What it is told by: the names in it, and why each conjunct is indexed or is not.
pub mod Names
pub mod Verdicts
