-- What the contracts cite: remainders and the records that stay.
pub mod Keys
pub mod Records
pub mod Around
pub mod References
pub mod Remainders
pub mod Rests
pub mod HeldIndexes
pub mod Pruned
pub mod Last
pub mod Parts
